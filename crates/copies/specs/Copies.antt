-- An output as code makes it, and written into a list.
use Rattle.std.specs.Prelude.{ℕ, ◌+◌, ◌*◌, Bool, true, ◌≡◌, List}
use Rattle.rules.specs.Choose.{choose}
use Rattle.rules.specs.Limits.{output_numbers}
use Rattle.rules.specs.Bytes.{splice}
use Rattle.rules.specs.Frame.{Rewrite, bridged, Output, copy_of, is_kept}
use Rattle.rules.specs.declared.Registers.{Registers}
use Rattle.copies.specs.declared.Rewrite.{Rewrite as Held}

-- the rewrite that code holds: its MACs have a meaning where it is routed
unfoldable pub rewrite_in : Held → Rewrite
rewrite_in h =
    choose h.routed (record { vlan = h.vlan; source = h.src_mac; destination = h.dst_mac; routed = true }) (bridged h.vlan)

-- an output to a port, whose tag is taken away or not
abbrev pub output_to : Rewrite → ℕ → Bool → Output
output_to how port pop = record { port = port; pop = choose pop 1 0; rewrite = how }

-- an output after n others, unless it is left out
pub record Sends (d : Registers) (ingress : ℕ) (o : Output) (n r : ℕ) (before after : List ℕ) : Type 0 where
  pub count : r ≡ choose (is_kept d ingress o) (n + 1) n
  pub list : after ≡ choose (is_kept d ingress o) (splice (output_numbers * n) (copy_of o) before) before
