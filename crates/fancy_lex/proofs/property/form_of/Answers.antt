use Rattle.std.proofs.Common.{rules}
use Rattle.std.specs.Str.{chars}
use Rattle.fancy_lex.proofs.property.form_of.Goals as goal

pub returns-in-Alnum : goal.returns-in-Alnum
unfolding chars
returns-in-Alnum c = rw c.in-Alnum.is c.form_by.ensures

pub returns-in-Blank : goal.returns-in-Blank
unfolding chars
returns-in-Blank c = rw c.in-Blank.is c.form_by-in-Blank.ensures

pub returns-in-Cntrl : goal.returns-in-Cntrl
unfolding chars
returns-in-Cntrl c = rw c.in-Cntrl.is c.form_by-in-Cntrl.ensures

pub returns-in-Word : goal.returns-in-Word
unfolding chars
returns-in-Word c = rw c.in-Word.is c.form_by-in-Word.ensures

pub returns-in-Graph : goal.returns-in-Graph
unfolding chars
returns-in-Graph c = rw c.in-Graph.is c.form_by-in-Graph.ensures

pub returns-in-Print : goal.returns-in-Print
unfolding chars
returns-in-Print c = rw c.in-Print.is c.form_by-in-Print.ensures

pub returns-in-Cs : goal.returns-in-Cs
unfolding chars
returns-in-Cs c = search rules
