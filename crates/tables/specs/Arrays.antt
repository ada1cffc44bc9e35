-- The arrays that the rules speak of, of a value that holds all three.
use Rattle.rules.specs.Tables.{Arrays, arrays}
use Rattle.tables.specs.declared.stored.Places.{Places}

abbrev pub arrays_of : Places → Arrays
arrays_of p = arrays p.flows p.heads p.members
