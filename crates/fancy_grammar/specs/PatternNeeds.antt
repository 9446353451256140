-- Which flags a tree requires, and the flags that are set before it. A text sets only CASEI, MULTI, DOTNL and CRLF; the
-- others stay as the caller gives them.
use Rattle.std.specs.Prelude.{ℕ, Bool, true, false, not, ◌&&◌, ◌||◌, [], ◌∷◌, ◌++◌, codes, if◌then◌else◌}
use Rattle.std.specs.Char.{is_ascii_alphanumeric}
use Rattle.std.specs.List.{list_all}
use Rattle.std.specs.Str.{bytes_eq}
use Rattle.std.proofs.Math.Bool.{beq}
use Rattle.fancy_lex.specs.Characters.{◌∈◌}
use Rattle.fancy_lex.specs.Escaped.{hex_class, negated_hex_class}
use Rattle.fancy_lex.specs.Flag.{letter}
use Rattle.fancy_lex.specs.Text.{Text}
use Rattle.fancy_lex.specs.declared.escape.Assertion.{Assertion}
use Rattle.fancy_lex.specs.declared.escape.Assertion.TheVariants.{EndTextIgnoreTrailingNewlines, StartLine}
use Rattle.fancy_lex.specs.declared.escape.Assertion.TheVariants.{StartLineOniguruma, EndLine}
use Rattle.fancy_lex.specs.declared.flags.Flag.TheVariants.{Casei, Multi, Dotnl, Crlf}
use Rattle.fancy_lex.specs.declared.flags.Flags.{Flags}
use Rattle.fancy_grammar.specs.Label.{Leaf, any, assertion, literal, delegate, backref, backref_at_level, ast_group}
use Rattle.fancy_grammar.specs.Tree.{Tree, leaf, over, row, Trees, no_trees, more_trees}
use Rattle.fancy_grammar.specs.declared.needs.Need.{Need}
use Rattle.fancy_grammar.specs.declared.needs.Need.TheVariants.{Free, Fixed, Torn}
use Rattle.fancy_grammar.specs.declared.needs.Needs.{Needs}

-- ---- what a leaf requires

abbrev pub no_needs : Needs
no_needs = record { casei = Free; multi = Free; dotnl = Free; crlf = Free }

abbrev pub needs_case : Bool → Needs
needs_case casei = record no_needs { casei = Fixed casei }

-- for `^` and `$` at lines
abbrev pub needs_line : Bool → Needs
needs_line crlf = record no_needs { multi = Fixed true; crlf = Fixed crlf }

-- for a dot
abbrev pub needs_dot : Bool → Bool → Needs
needs_dot newline crlf = record no_needs { dotnl = Fixed newline; crlf = Fixed crlf }

-- after a backslash the character is itself with its case kept, whatever the flags
abbrev pub is_kept_by_backslash : Bool → ℕ → Bool
is_kept_by_backslash oniguruma c = not (is_ascii_alphanumeric c) && (oniguruma || not (c ∈ "<>"))

-- what `\h` and `\H` are read as, whatever the flags
abbrev pub is_hex_class : Text → Bool
is_hex_class s = bytes_eq s hex_class || bytes_eq s negated_hex_class

abbrev pub assertion_needs : Assertion → Needs
assertion_needs (StartLine crlf) = needs_line crlf
assertion_needs (StartLineOniguruma crlf) = needs_line crlf
assertion_needs (EndLine crlf) = needs_line crlf
assertion_needs (EndTextIgnoreTrailingNewlines crlf) = record no_needs { crlf = Fixed crlf }
assertion_needs _ = no_needs

-- in Oniguruma mode, or outside it
abbrev pub leaf_needs : Bool → Leaf → Needs
leaf_needs o (literal s true) = needs_case true
leaf_needs o (literal s false) = if list_all (is_kept_by_backslash o) s then no_needs else needs_case false
leaf_needs o (delegate s true) = needs_case true
leaf_needs o (delegate s false) = if is_hex_class s then no_needs else needs_case false
leaf_needs o (backref n casei) = needs_case casei
leaf_needs o (backref_at_level n level casei) = needs_case casei
leaf_needs o (any newline crlf) = if beq newline crlf then no_needs else needs_dot newline crlf
leaf_needs o (assertion a) = assertion_needs a
leaf_needs o _ = no_needs

-- ---- what a tree requires: what its leaves require, in text order; the contents of a capturing group are not counted

-- what the first requires, or, if that is nothing, what the second requires
abbrev pub first : Need → Need → Need
first Free n = n
first n _ = n

-- what both require together
abbrev pub both : Need → Need → Need
both Free n = n
both n Free = n
both (Fixed a) (Fixed b) = if beq a b then Fixed a else Torn
both _ _ = Torn

abbrev pub joined : (Need → Need → Need) → Needs → Needs → Needs
joined join n m = record {
  casei = join n.casei m.casei;
  multi = join n.multi m.multi;
  dotnl = join n.dotnl m.dotnl;
  crlf = join n.crlf m.crlf;
}

abbrev mutual
  pub needs : (Need → Need → Need) → Bool → Tree → Needs
  needs join o (leaf l) = leaf_needs o l
  needs join o (over (ast_group name position) t) = no_needs
  needs join o (over w t) = needs join o t
  needs join o (row r ts) = needs_all join o ts

  pub needs_all : (Need → Need → Need) → Bool → Trees → Needs
  needs_all join o no_trees = no_needs
  needs_all join o (more_trees t ts) = joined join (needs join o t) (needs_all join o ts)

-- ---- the flags that are set

-- the flag as it is required, or else unchanged
abbrev pub fixed_or : Bool → Need → Bool
fixed_or b (Fixed c) = c
fixed_or b _ = b

abbrev pub with_needs : Flags → Needs → Flags
with_needs f n = record f {
  casei = fixed_or f.casei n.casei;
  multi = fixed_or f.multi n.multi;
  dotnl = fixed_or f.dotnl n.dotnl;
  crlf = fixed_or f.crlf n.crlf;
}

-- before a tree: for each flag, the first requirement of a leaf
abbrev pub settled : Flags → Tree → Flags
settled f t = with_needs f (needs first f.oniguruma_mode t)

-- before the whole: for each flag, the requirement of all leaves that have one, if they agree
abbrev pub agreed : Flags → Tree → Flags
agreed f t = with_needs f (needs both f.oniguruma_mode t)

-- ---- how they are set

-- the letter, if the flag is turned on
abbrev pub letter_on : ℕ → Bool → Bool → Text
letter_on c was on = if on && not was then c ∷ [] else []

-- the letters of the flags that are on in g and off in f
abbrev pub letters_on : Flags → Flags → Text
letters_on f g =
    letter_on (letter Casei) f.casei g.casei ++ (letter_on (letter Multi) f.multi g.multi
    ++ (letter_on (letter Dotnl) f.dotnl g.dotnl ++ letter_on (letter Crlf) f.crlf g.crlf))

-- some flag is on in g and off in f
abbrev pub turns_on : Flags → Flags → Bool
turns_on f g =
    (g.casei && not f.casei) || ((g.multi && not f.multi) || ((g.dotnl && not f.dotnl) || (g.crlf && not f.crlf)))

-- the letters that change the flags f to the flags g
abbrev pub letters_between : Flags → Flags → Text
letters_between f g = letters_on f g ++ ((if turns_on g f then codes "-" else []) ++ letters_on g f)

-- a group that changes the flags f to the flags g for what follows, if they differ
abbrev pub inline_flags : Flags → Flags → Text
inline_flags f g =
    if turns_on f g || turns_on g f then codes "(?" ++ (letters_between f g ++ codes ")") else []
