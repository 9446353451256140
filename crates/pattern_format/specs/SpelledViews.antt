-- A change, with its text.
use Rattle.pattern_format.specs.Spelled as spec
use Rattle.pattern_format.specs.declared.spelled.Change.{Change}

abbrev pub change_of : Change → spec.Change
change_of c = record { start = c.start; end = c.end; text = c.text.now }
