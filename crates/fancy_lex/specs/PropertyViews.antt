-- Properties, their names and the forms of the names in code.
use Rattle.std.specs.Prelude.{◌++◌, chars, codes}
use Rattle.fancy_lex.specs.Property.{Property, PropertyName, single, braced, Form, set, pair, lowercase}
use Rattle.fancy_lex.specs.Text.{Text}
use Rattle.fancy_lex.specs.declared.property.Form as declared_form
use Rattle.fancy_lex.specs.declared.property.Form.TheVariants as written_form
use Rattle.fancy_lex.specs.declared.property.Property as declared_property
use Rattle.fancy_lex.specs.declared.property.PropertyName as declared_name
use Rattle.fancy_lex.specs.declared.property.PropertyName.TheVariants as written_name

-- a name in code, as characters
abbrev pub view_name : declared_name.PropertyName → PropertyName
view_name (written_name.Single c) = single c
view_name (written_name.Braced s) = braced (chars s.now)

-- a property in code, with its name as characters
abbrev pub view_property : declared_property.Property → Property
view_property p = record { negated = p.negated; name = view_name p.name }

-- how a name that is not in the table is written
abbrev pub other_form : Text → Form
other_form name = pair (codes "\\p{" ++ lowercase name ++ codes "}") (codes "\\P{" ++ lowercase name ++ codes "}")

-- the form of the code's value
abbrev pub view_form : declared_form.Form → Form
view_form (written_form.Set items) = set (chars items.now)
view_form (written_form.Pair plain turned) = pair (chars plain.now) (chars turned.now)
view_form (written_form.Name s) = other_form (chars s.now)
