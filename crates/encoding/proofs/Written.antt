-- What the functions put, on plain values: bytes one after another are one writing of both (`puts_on`), a nest and a payload are
-- their region with the bytes in front of it. A loop has put some bytes of a whole and is left with the rest (`Going`).
-- Assumes nothing.
use Prim.Native.Nat.{ℕ, ◌+◌, ◌-◌, ◌*◌, ◌^◌, ◌≤◌, ◌<◌}
use mathlib.Core.Path.{◌≡◌, refl, sym, ◌∙◌}
use mathlib.Core.List.{List, [], ◌∷◌, ◌++◌, append_assoc, append-nil}
use native.Mathlib.Omega.{arith}
use lib.ListN.{length, replicate, length-append, length-replicate}
use Rattle.rules.specs.Bytes.{bytes_of, splice, swapped}
use Rattle.rules.specs.Version.{current, header_bytes}
use Rattle.rules.specs.Region.{length_field}
use Rattle.rules.specs.Encode.{Field, field_of, tlv_of, region_of, payload_of}
use Rattle.rules.proofs.Bytes.{length_bytes_of, splice_nil}
use Rattle.wire.specs.Put.{put}
use Rattle.encoding.specs.Writing.{lead, top, Puts}
use Rattle.encoding.proofs.Splicing.{length_splice, splice_behind, splice_front, splice_start, put_is, put_behind}
use Rattle.encoding.proofs.Regions.{length_lead, length_top, length_number, tlv_none, tlv_number, tlv_wide, tlv_region, zeros_split}
use Rattle.encoding.proofs.Words.{wide_bytes}

-- ---- A TLV

-- type, length and pad
pub lead_put : (at kind size : ℕ) (s : List ℕ) → at + 8 ≤ length s
    → put (at + 6) 2 0 (put (at + 4) 2 (length_field (header_bytes current) size) (put at 4 kind s)) ≡ splice at (lead kind size) s
unfolding lead
lead_put at kind size s h =
    rw (
      put_is at 4 kind s (omega arith),
      put_behind at 4 2 (length_field (header_bytes current) size) (bytes_of 4 kind) s (length_bytes_of 4 kind) (omega arith),
      put_behind at 6 2 0 (bytes_of 4 kind ++ bytes_of 2 (length_field (header_bytes current) size)) s (simp (length-append, length_bytes_of)) (omega arith),
    )
    (simp append_assoc)

-- a number of no bytes
pub none_put : (at kind w v : ℕ) (s t : List ℕ) → w ≡ 0 → t ≡ splice at (lead kind w) s
    → Puts (at + 8) t at (tlv_of (field_of kind (bytes_of w v))) s 16
none_put at kind w v s t z e =
    let q : tlv_of (field_of kind (bytes_of w v)) ≡ lead kind w = rw z (tlv_none kind v) in
    record { buffer_is = e ∙ rw q; end_is = rw (q, length_lead); at_most = omega arith }

-- zeros behind the first eight bytes, and the number over them
number_over : (at w v : ℕ) (a s : List ℕ) → length a ≡ 8 → at + 16 ≤ length s → w ≤ 8
    → put (at + 8) w v (put (at + 8) 8 0 (splice at a s)) ≡ splice at (a ++ (bytes_of w v ++ replicate (8 - w) 0)) s
number_over at w v a s e h k =
    let m : length (splice at a s) ≡ length s = length_splice at a s (omega arith) (omega arith) in
    let n : length (splice (at + 8) (bytes_of 8 0) (splice at a s)) ≡ length s =
    length_splice (at + 8) (bytes_of 8 0) (splice at a s) (omega arith) (rw length_bytes_of (omega arith)) ∙ m in
    rw (
      put_is (at + 8) 8 0 (splice at a s) (omega arith),
      put_is (at + 8) w v (splice (at + 8) (bytes_of 8 0) (splice at a s)) (omega arith),
      zeros_split w k,
      splice_start (at + 8) (replicate w 0) (bytes_of w v) (replicate (8 - w) 0) (splice at a s) (rw length-replicate (omega arith)) (rw (length-replicate, length_bytes_of)),
    )
    (splice_behind at a (bytes_of w v ++ replicate (8 - w) 0) s 8 e (omega arith))

pub number_put : (at kind w v : ℕ) (s t : List ℕ) → (w ≡ 0 → ⊥) → w ≤ 8 → at + 16 ≤ length s → t ≡ splice at (lead kind w) s
    → Puts (at + 16) (put (at + 8) w v (put (at + 8) 8 0 t)) at (tlv_of (field_of kind (bytes_of w v))) s 16
number_put at kind w v s t z k h e =
    record {
      buffer_is = rw (e, number_over at w v (lead kind w) s (length_lead kind w) h k, tlv_number kind w v (omega arith) k);
      end_is = rw (length_number kind w v (omega arith) k);
      at_most = omega arith;
    }

-- a number of two words, big-endian, behind the first eight bytes
pub wide_put : (at kind h l : ℕ) (s t : List ℕ) → l < 2 ^ 64 → at + 24 ≤ length s → t ≡ splice at (lead kind 16) s
    → Puts (at + 24) (put (at + 16) 8 (swapped 8 l) (put (at + 8) 8 (swapped 8 h) t)) at (tlv_of (field_of kind (bytes_of 16 (swapped 16 (h * 2 ^ 64 + l))))) s 24
wide_put at kind h l s t fits k e =
    let a = lead kind 16 ++ bytes_of 8 (swapped 8 h) in
    let n : length a ≡ 16 = simp (length-append, length_lead, length_bytes_of) in
    let is : tlv_of (field_of kind (bytes_of 16 (swapped 16 (h * 2 ^ 64 + l)))) ≡ a ++ bytes_of 8 (swapped 8 l) =
    tlv_wide kind (swapped 16 (h * 2 ^ 64 + l)) ∙ rw (wide_bytes h l fits) (sym (append_assoc (lead kind 16) (bytes_of 8 (swapped 8 h)) (bytes_of 8 (swapped 8 l)))) in
    record {
      buffer_is = rw (
        e,
        put_behind at 8 8 (swapped 8 h) (lead kind 16) s (length_lead kind 16) (omega arith),
        put_behind at 16 8 (swapped 8 l) a s n (omega arith),
        is,
      );
      end_is = rw (is, length-append, n, length_bytes_of) (omega arith);
      at_most = omega arith;
    }

-- the first bytes of CMD_INFO behind CMD_TYPE
pub top_put : {r x : ℕ} {s t u : List ℕ} (command end : ℕ) → 16 ≤ length s → Puts r t 0 (tlv_of (field_of 1 (bytes_of 2 command))) s x
    → u ≡ splice 16 (lead 2 (end - 24)) t → u ≡ splice 0 (top command end) s
unfolding top
top_put {s = s} command end h p q =
    let f = tlv_of (field_of 1 (bytes_of 2 command)) in
    q ∙ rw p.buffer_is (splice_behind 0 f (lead 2 (end - 24)) s 16 (length_number 1 2 command (omega arith) (omega arith)) (omega arith))

-- ---- One after another

puts_on : {m r at x y : ℕ} {a b s t u : List ℕ} → at ≤ length s → Puts m t at a s x → Puts r u m b t y → Puts r u at (a ++ b) s (x + y)
puts_on {at = at} {a = a} {b = b} {s = s} h p q =
    record {
      buffer_is = q.buffer_is ∙ rw (p.end_is, p.buffer_is) (splice_behind at a b s (length a) refl h);
      end_is = q.end_is ∙ rw (p.end_is, length-append) (omega arith);
      at_most = omega (arith, p.at_most, q.at_most);
    }

pub puts_same : {r at x : ℕ} {a b s t : List ℕ} (most : ℕ) → a ≡ b → x ≤ most → Puts r t at a s x → Puts r t at b s most
puts_same most e k p = record { buffer_is = p.buffer_is ∙ rw e; end_is = p.end_is ∙ rw e; at_most = omega (arith, p.at_most) }

pub puts_none : {at : ℕ} {s : List ℕ} (most : ℕ) → Puts at s at [] s most
puts_none {at} {s} most = record { buffer_is = sym (splice_nil at s); end_is = omega arith; at_most = omega arith }

-- a region's last field, and one in front of others
pub last_put : {r at x : ℕ} {s t : List ℕ} (f : Field) → Puts r t at (tlv_of f) s x → Puts r t at (region_of (f ∷ [])) s x
unfolding region_of
last_put {x = x} f p = puts_same x (sym (append-nil (tlv_of f))) (omega arith) p

pub then_put : {m r at x y : ℕ} {s t u : List ℕ} (f : Field) (fs : List Field) → at ≤ length s → Puts m t at (tlv_of f) s x
    → Puts r u m (region_of fs) t y → Puts r u at (region_of (f ∷ fs)) s (x + y)
unfolding region_of
then_put f fs h p q = puts_on h p q

-- ---- What stands in front of a region

-- bytes in front of those that are there already
in_front : {r at k x : ℕ} {b s t u : List ℕ} (a : List ℕ) → length a ≡ k → at + k ≤ length s → Puts r t (at + k) b s x → u ≡ splice at a t
    → Puts r u at (a ++ b) s (k + x)
in_front {at = at} {k = k} {b = b} {s = s} a e h p q =
    record {
      buffer_is = q ∙ rw p.buffer_is (splice_front at a b s k e h);
      end_is = p.end_is ∙ rw length-append (omega arith);
      at_most = omega (arith, p.at_most);
    }

pub nest_put : {r at x : ℕ} {s t u : List ℕ} (kind : ℕ) (fs : List Field) → at + 8 ≤ length s → Puts r t (at + 8) (region_of fs) s x
    → u ≡ splice at (lead kind (r - at - 8)) t → Puts r u at (tlv_of (field_of kind (region_of fs))) s (8 + x)
nest_put {r} {at} {x} kind fs h p q =
    let n : r - at - 8 ≡ length (region_of fs) = omega (arith, p.end_is) in
    puts_same (8 + x) (rw n (sym (tlv_region kind fs))) (omega arith) (in_front _ (length_lead kind (r - at - 8)) h p q)

pub payload_put : {r x : ℕ} {s t u : List ℕ} (command : ℕ) (fs : List Field) (most : ℕ) → 24 ≤ length s → 24 + x ≤ most
    → Puts r t 24 (region_of fs) s x → u ≡ splice 0 (top command r) t → Puts r u 0 (payload_of command fs) s most
unfolding payload_of region_of top
payload_put {r} command fs most h k p q =
    let n : r - 24 ≡ length (region_of fs) = omega (arith, p.end_is) in
    puts_same most (rw (n, tlv_region 2 fs, append-nil) (simp append_assoc)) k (in_front _ (length_top command r) h p q)

-- ---- A loop that puts a region

-- of the bytes of a whole some are put, and the rest is left
pub record Going (whole rest : List ℕ) (at : ℕ) (before : List ℕ) (most end : ℕ) (now : List ℕ) : Type 0 where
  pub done : List ℕ
  pub is : whole ≡ done ++ rest
  pub puts : Puts end now at done before most

pub going_starts : {at : ℕ} {s : List ℕ} (whole : List ℕ) → Going whole whole at s 0 at s
going_starts whole = record { done = []; is = refl; puts = puts_none 0 }

pub going_on : {whole rest s t u a : List ℕ} {at m r x y : ℕ} (rest' : List ℕ) (most : ℕ) → at ≤ length s → x + y ≤ most → rest ≡ a ++ rest'
    → Going whole rest at s x m t → Puts r u m a t y → Going whole rest' at s most r u
going_on {a = a} rest' most h k e g p =
    record {
      done = g.done ++ a;
      is = g.is ∙ rw e (sym (append_assoc g.done a rest'));
      puts = puts_same most refl k (puts_on h g.puts p);
    }

pub going_ends : {whole rest s t : List ℕ} {at m x : ℕ} (most : ℕ) → rest ≡ [] → x ≤ most → Going whole rest at s x m t → Puts m t at whole s most
going_ends most e k g = puts_same most (sym (g.is ∙ rw e (append-nil g.done))) k g.puts
