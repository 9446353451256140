-- Targets and references in code: with owned names in trees, and with borrowed names in the readers.
use Rattle.std.specs.Prelude.{chars}
use Rattle.fancy_lex.specs.IdReference.{IdReference, id_alone, id_and_amount, amount_alone}
use Rattle.fancy_lex.specs.Referred.{Reference, Call, reference_to, call_to}
use Rattle.fancy_lex.specs.Target.{Target, by_number, by_name, relative}
use Rattle.fancy_lex.specs.Text.{text_of}
use Rattle.fancy_lex.specs.declared.name.CaptureGroupTarget.{CaptureGroupTarget}
use Rattle.fancy_lex.specs.declared.name.CaptureGroupTarget.TheVariants as owned
use Rattle.fancy_lex.specs.declared.name.id.IdReference as declared_id
use Rattle.fancy_lex.specs.declared.name.id.IdReference.TheVariants as id_form
use Rattle.fancy_lex.specs.declared.name.target.Call as declared_call
use Rattle.fancy_lex.specs.declared.name.target.Reference as declared_reference
use Rattle.fancy_lex.specs.declared.name.target.Target as declared_target
use Rattle.fancy_lex.specs.declared.name.target.Target.TheVariants as borrowed

-- an id reference in code, with its id as characters
abbrev pub view_id_reference : declared_id.IdReference → IdReference
view_id_reference (id_form.Id i) = id_alone (chars i.now)
view_id_reference (id_form.IdAndAmount i z) = id_and_amount (chars i.now) z
view_id_reference (id_form.Amount z) = amount_alone z

-- a target in code with an owned name, with the name as characters
abbrev pub view_target : CaptureGroupTarget → Target
view_target (owned.ByNumber n) = by_number n
view_target (owned.ByName s) = by_name (text_of s)
view_target (owned.Relative z) = relative z

-- a target in code with a borrowed name, with the name as characters
abbrev pub view_borrowed : declared_target.Target → Target
view_borrowed (borrowed.ByNumber n) = by_number n
view_borrowed (borrowed.ByName s) = by_name (chars s.now)
view_borrowed (borrowed.Relative z) = relative z

-- a reference in code
abbrev pub view_reference : declared_reference.Reference → Reference
view_reference r = reference_to r.reach (view_borrowed r.target) r.level

-- a call in code
abbrev pub view_call : declared_call.Call → Call
view_call c = call_to c.reach (view_borrowed c.target)
