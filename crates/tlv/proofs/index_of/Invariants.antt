use Rattle.tlv.proofs.Indexing.{Indexing}
use Rattle.tlv.proofs.index_of.Given as goal

abbrev pub invariant-loop-tlv : goal.invariant-loop-tlv
invariant-loop-tlv l = Indexing l.header l.region l.tlv-iterator l.places
