-- What a call does to guest memory: a list of writes, applied in order, and which bytes they touch.
use Rattle.std.specs.Prelude.{ℕ, ◌+◌, Bool, false, ◌&&◌, ◌||◌, List, [], ◌∷◌, length, ltb, leb}
use Rattle.rules.specs.Bytes.{splice}

-- bytes, and the address that the first of them goes to
pub record Write : Type 0 where
  pub at : ℕ
  pub bytes : List ℕ

abbrev pub bytes_at : ℕ → List ℕ → Write
bytes_at at bytes = record { at = at; bytes = bytes }

unfoldable pub memory_after : List Write → List ℕ → List ℕ
memory_after [] memory = memory
memory_after (w ∷ ws) memory = memory_after ws (splice w.at w.bytes memory)

-- whether a byte is among those written. Every other byte stays as it was (`untouched` in proofs/Writes.antt)
unfoldable pub touches : ℕ → List Write → Bool
touches i [] = false
touches i (w ∷ ws) = (leb w.at i && ltb i (w.at + length w.bytes)) || touches i ws
