-- What making the list promises. A list grows at its end: each part says what it adds, and that it is written if the room has place for it.
use Rattle.std.specs.Prelude.{ℕ, ◌+◌, ◌*◌, ◌≤◌, ◌<◌, ◌^◌, Bool, true, false, ◌≡◌, List, [], ◌++◌, length, take, drop}
use Rattle.rules.specs.Bytes.{bytes_of, splice}
use Rattle.rules.specs.Keyed.{Rising}
use Rattle.rules.specs.Tables.{Tables, cookie_of, id_of}
use Rattle.rules.specs.Undo.{listed, flow_run, group_run}
use Rattle.picking.specs.Next.{next_at, still}
use Rattle.listing.specs.declared.Listed.{Listed}
use Rattle.listing.specs.declared.Step.{Step}

unfoldable pub nothing_listed : Listed
nothing_listed = record { count = 0; size = 0 }

-- Numbers that no sum of this crate leaves: a list that has at most these before a payload, and before a run
abbrev pub large : ℕ
large = 2 ^ 40

pub record Small (l : Listed) : Type 0 where
  pub count_small : l.count ≤ 2 ^ 32
  pub size_small : l.size ≤ 2 ^ 32

-- before runs of both tables, and before two of these
abbrev pub half : ℕ
half = 2 ^ 31

abbrev pub quarter : ℕ
quarter = 2 ^ 30

pub record Below (most : ℕ) (l : Listed) : Type 0 where
  pub count_below : l.count ≤ most
  pub size_below : l.size ≤ most

-- a payload behind its length
pub record Adds (r so_far : Listed) (after payload before : List ℕ) : Type 0 where
  pub count_is : r.count ≡ so_far.count + 1
  pub size_is : r.size ≡ so_far.size + (2 + length payload)
  pub at_most : r.size ≤ so_far.size + 1058
  pub kept : length after ≡ length before
  pub written : r.size ≤ length before → after ≡ splice so_far.size (bytes_of 2 (length payload) ++ payload) before

-- payloads, `most` of them at most
pub record Lists (r so_far : Listed) (after : List ℕ) (ps : List (List ℕ)) (most : ℕ) (before : List ℕ) : Type 0 where
  pub count_is : r.count ≡ so_far.count + length ps
  pub size_is : r.size ≡ so_far.size + length (listed ps)
  pub few : length ps ≤ most
  pub at_most : r.size ≤ so_far.size + 1058 * most
  pub kept : length after ≡ length before
  pub written : r.size ≤ length before → after ≡ splice so_far.size (listed ps) before

module _ {A : Type 0} (key : A → ℕ) where
  -- One step, where `run` says which payloads entries give: the first of those that it has not had, if there is one
  pub record Steps (run : List A → List (List ℕ)) (l : List A) (r : Step) (so_far : Listed) (started : Bool) (k : ℕ) (after before : List ℕ) : Type 0 where
    pub lists : Lists r.listed so_far after (run (take 1 (still key started k l))) 1 before
    pub rest : r.more ≡ true → Rising key l → still key true r.key l ≡ drop 1 (still key started k l)
    pub goes_on : r.more ≡ true → next_at key started k l < length l
    pub ends : r.more ≡ false → still key started k l ≡ []

pub record InOrder (t : Tables) : Type 0 where
  pub flows_rise : Rising cookie_of t.flows
  pub groups_rise : Rising id_of t.groups

-- ---- The list, by its commands

-- what two commands list of tables, beside others
unfoldable pub both_runs : ℕ → ℕ → Bool → Tables → Tables → List (List ℕ)
both_runs flow_command group_command there other t =
    flow_run flow_command there other.flows t.flows ++ group_run group_command there other.groups t.groups

-- what the list has behind its dels
unfoldable pub given_back : Tables → Tables → List (List ℕ)
given_back earlier now = both_runs 4 8 true now earlier ++ both_runs 3 7 false now earlier
