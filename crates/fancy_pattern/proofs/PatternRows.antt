-- Texts of trees, computed from the definition.
use Rattle.std.specs.Prelude.{◌≡◌, ℕ, pos, negsuc, Bool, true, false, List, [], ◌∷◌, codes, map, Some, None, refl}
use Prim.Native.String.{String}
use Rattle.std.specs.Fmt.{digits}
use Rattle.fancy_lex.specs.EscapeReference.{is_relative}
use Rattle.fancy_lex.specs.Flags.{no_flag, unicode_alone}
use Rattle.fancy_lex.specs.Id.{id, id_run, is_id_char}
use Rattle.fancy_lex.specs.IdReference.{id_reference}
use Rattle.fancy_lex.specs.Number.{number, run}
use Rattle.fancy_lex.specs.NumberText.{number_text, whole_number}
use Rattle.fancy_lex.specs.Target.{by_name, relative}
use Rattle.fancy_lex.specs.Text.{Text}
use Rattle.fancy_lex.specs.declared.escape.Assertion.TheVariants.{StartText, EndText, EndTextIgnoreTrailingNewlines}
use Rattle.fancy_lex.specs.declared.escape.Assertion.TheVariants.{StartLine, EndLine, LeftWordBoundary, WordBoundary}
use Rattle.fancy_lex.specs.declared.flags.Flags.{Flags}
use Rattle.fancy_lex.specs.GroupReference.{begins_target}
use Rattle.fancy_lex.specs.Quantifier.{most}
use Rattle.fancy_grammar.specs.Quote.{range, operator}
use Rattle.fancy_grammar.specs.Label.{ast_call}
use Rattle.fancy_grammar.specs.GroupInfo.{GroupInfo}
use Rattle.fancy_grammar.specs.Pattern.{pattern_text}
use Rattle.fancy_grammar.specs.PatternSource.{parts_in}
use Rattle.fancy_grammar.specs.Tree.{Tree, trees_of, empty, any, assertion, general_newline, literal, literal_bytes}
use Rattle.fancy_grammar.specs.Tree.{delegate, backref, backref_at_level, keep_out, continue_from_previous_match_end}
use Rattle.fancy_grammar.specs.Tree.{backref_exists, subroutine_call, verb, clear, ast_node, group, look_around, repeat}
use Rattle.fancy_grammar.specs.Tree.{atomic_group, define_group, repeater, stopper, expression, conditional, concat}
use Rattle.fancy_grammar.specs.Tree.{alt}
use Rattle.fancy_grammar.specs.declared.kinds.BacktrackingControlVerb.TheVariants.{Fail, Skip}
use Rattle.fancy_grammar.specs.declared.kinds.LookAround.TheVariants.{LookAhead, LookBehindNeg}
use Rattle.ucd_category.specs.GeneralCategory.{general_category}
use Rattle.ucd_category.specs.GeneralCategoryRows.{general_category_rows}
use Rattle.ucd_derived.specs.AlphabeticRanges.{alphabetic_ranges}
use Rattle.ucd_derived.specs.Binary.{is_alphabetic}
use Rattle.ucd_table.specs.Rows.{in_ranges, value_in}

-- the text of a tree that was parsed under these flags and has this group information
record Row : Type 0 where
  text : Text
  flags : Flags
  info : GroupInfo
  tree : Tree

abbrev row : String → Flags → GroupInfo → Tree → Row
row s f m t = record { text = codes s; flags = f; info = m; tree = t }

abbrev texts : List Row → List Text
texts = map (λ r. pattern_text r.flags r.tree r.info)

abbrev wanted : List Row → List Text
wanted = map (λ r. r.text)

-- ---- short forms for flags, group information and trees

abbrev oniguruma : Flags
oniguruma = record unicode_alone { oniguruma_mode = true }

abbrev names_alone : Flags
names_alone = record unicode_alone { ignore_numbered_groups = true }

-- what the text needs of the group information: the names, whether some reference is written with a number, and whether
-- one is a call of 0
abbrev info_with : List (Text × List ℕ) → Bool → Bool → GroupInfo
info_with names numeric self_recursive = record {
  backrefs = [];
  named_groups = names;
  numeric_capture_group_references = numeric;
  contains_subroutines = false;
  self_recursive = self_recursive;
  total_groups = 0;
  out_of_range_backref = None;
  numbered_groups_ignored = false;
}

abbrev unnamed : GroupInfo
unnamed = info_with [] false false

abbrev in_numbers : GroupInfo
in_numbers = info_with [] true false

abbrev named : String → List ℕ → GroupInfo
named name numbers = info_with ((codes name, numbers) ∷ []) false false

abbrev kept : String → Tree
kept s = literal (codes s) false

abbrev caseless : String → Tree
caseless s = literal (codes s) true

abbrev class : String → Tree
class s = delegate (codes s) false

abbrev caseless_class : String → Tree
caseless_class s = delegate (codes s) true

abbrev seq : List Tree → Tree
seq ts = concat (trees_of ts)

-- one character for each in the text
abbrev word : String → Tree
word s = seq (map (λ c. literal (c ∷ []) false) (codes s))

abbrev caseless_word : String → Tree
caseless_word s = seq (map (λ c. literal (c ∷ []) true) (codes s))

abbrev either : List Tree → Tree
either ts = alt (trees_of ts)

-- ---- flags that are set

abbrev flags : List Row
flags =
    row "(a|b)c*" unicode_alone unnamed
    (seq (group (either (kept "a" ∷ kept "b" ∷ [])) ∷ repeat (kept "c") 0 most true ∷ []))
    ∷ row "(?i)(?:foo|bar)\\s+\\d" unicode_alone unnamed
    (seq (either (caseless_word "foo" ∷ caseless_word "bar" ∷ []) ∷ repeat (caseless_class "\\s") 1 most true
    ∷ caseless_class "\\d" ∷ []))
    ∷ row "foo" (record no_flag { casei = true }) unnamed (caseless_word "foo")
    ∷ row "(?-i)foo" (record no_flag { casei = true }) unnamed (word "foo")
    ∷ row "x(?i:ab)y" unicode_alone unnamed (seq (kept "x" ∷ caseless_word "ab" ∷ kept "y" ∷ []))
    ∷ row "x(?i)ab(?-i)y" unicode_alone unnamed (seq (kept "x" ∷ caseless "a" ∷ caseless "b" ∷ kept "y" ∷ []))
    ∷ row "(?i:foo)bar" unicode_alone unnamed (seq (caseless_word "foo" ∷ kept "b" ∷ kept "a" ∷ kept "r" ∷ []))
    ∷ row "(?i)(a)(?-i)b" unicode_alone unnamed (seq (group (caseless "a") ∷ kept "b" ∷ []))
    ∷ row "(?i:a|b)c" unicode_alone unnamed (seq (either (caseless "a" ∷ caseless "b" ∷ []) ∷ kept "c" ∷ []))
    ∷ row "(?s)\\w.*" unicode_alone unnamed (seq (class "\\w" ∷ repeat (any true false) 0 most true ∷ []))
    ∷ row "(?m)^a$" unicode_alone unnamed
    (seq (assertion (StartLine false) ∷ kept "a" ∷ assertion (EndLine false) ∷ []))
    ∷ row "^a$" unicode_alone unnamed (seq (assertion StartText ∷ kept "a" ∷ assertion EndText ∷ []))
    ∷ row "\\O\\O." unicode_alone unnamed (seq (any true true ∷ any true true ∷ any false false ∷ []))
    ∷ row "..\\N" (record no_flag { dotnl = true; crlf = true }) unnamed
    (seq (any true true ∷ any true true ∷ any false false ∷ []))
    ∷ []

pub flags_written : texts flags ≡ wanted flags
unfolding pattern_text parts_in digits range operator
flags_written = refl

-- ---- characters and escapes

abbrev characters : List Row
characters =
    row "(?i)\\x2E\\.\\-a" unicode_alone unnamed (seq (caseless "." ∷ kept "." ∷ kept "-" ∷ caseless "a" ∷ []))
    ∷ row "ab [ ]" unicode_alone unnamed (seq (kept "a" ∷ kept "b" ∷ kept " " ∷ class "[ ]" ∷ []))
    ∷ row "a\\ \\#" (record no_flag { ignore_space = true }) unnamed (word "a #")
    ∷ row "a*b*?" (record no_flag { swap_greed = true }) unnamed
    (seq (repeat (kept "a") 0 most false ∷ repeat (kept "b") 0 most true ∷ []))
    ∷ row "\\b{start}<" oniguruma unnamed (seq (assertion LeftWordBoundary ∷ kept "<" ∷ []))
    ∷ row "\\<\\bx{2,}" unicode_alone unnamed
    (seq (assertion LeftWordBoundary ∷ assertion WordBoundary ∷ repeat (kept "x") 2 most true ∷ []))
    ∷ row "\\xFF\\xE9" no_flag unnamed (seq (literal_bytes (255 ∷ []) ∷ literal_bytes (233 ∷ []) ∷ []))
    ∷ row "[\\n\\x00]\\n\\n" unicode_alone unnamed (seq (class "[\n\0]" ∷ kept "\n" ∷ kept "\n" ∷ []))
    ∷ []

pub characters_written : texts characters ≡ wanted characters
unfolding pattern_text parts_in digits range operator
characters_written = refl

-- ---- sources of Delegates

abbrev sources : List Row
sources =
    row "[[^\\p{alpha}\\p{digit}]&&[^\\p{blank}]]" unicode_alone unnamed
    (class "[[^\\p{alpha}\\p{digit}]&&[^\\p{Zs}\\x09]]")
    ∷ row "\\p{^^x}\\p{lu}" unicode_alone unnamed (seq (class "\\P{^x}" ∷ class "\\p{lu}" ∷ []))
    ∷ row "[\\p{graph}\\p{print}]\\P{graph}" unicode_alone unnamed
    (seq (class "[[^\\p{White_Space}\\p{C}]&&[^\\p{C}\\t\\n\\v\\f\\r]]" ∷ class "[\\p{White_Space}\\p{C}]" ∷ []))
    ∷ row "[\\p{blank}][\\p{blank}]" no_flag unnamed (seq (class "[\\t ]" ∷ class "[\\t ]" ∷ []))
    ∷ row "(?i)\\h[0-9A-Fa-f]" unicode_alone unnamed (seq (class "[0-9A-Fa-f]" ∷ caseless_class "[0-9A-Fa-f]" ∷ []))
    ∷ row "[\\]a\\-~]" unicode_alone unnamed (class "[\\]a\\-~]")
    ∷ []

pub sources_written : texts sources ≡ wanted sources
unfolding pattern_text parts_in digits range operator
sources_written = refl

-- ---- quantifiers

abbrev quantifiers : List Row
quantifiers =
    row "a{3,1}a?a+a{2}a*" unicode_alone unnamed
    (seq (repeat (kept "a") 3 1 true ∷ repeat (kept "a") 0 1 true ∷ repeat (kept "a") 1 most true
    ∷ repeat (kept "a") 2 2 true ∷ repeat (kept "a") 0 most true ∷ []))
    ∷ row "a*+a{2,3}?+" unicode_alone unnamed
    (seq (atomic_group (repeat (kept "a") 0 most true) ∷ atomic_group (repeat (kept "a") 2 3 false) ∷ []))
    ∷ row "(?>a*)?" unicode_alone unnamed (repeat (atomic_group (repeat (kept "a") 0 most true)) 0 1 true)
    ∷ row "a*+a{3,1}(?>a{2})" oniguruma unnamed
    (seq (atomic_group (repeat (kept "a") 0 most true) ∷ atomic_group (repeat (kept "a") 1 3 true)
    ∷ atomic_group (repeat (kept "a") 2 2 true) ∷ []))
    ∷ row "a{2}{3}" oniguruma unnamed (repeat (repeat (kept "a") 2 2 true) 3 3 true)
    ∷ row "a*{0,1}{1,}" oniguruma unnamed (repeat (repeat (repeat (kept "a") 0 most true) 0 1 true) 1 most true)
    ∷ row "a*****" oniguruma unnamed
    (repeat (repeat (repeat (repeat (repeat (kept "a") 0 most true) 0 most true) 0 most true) 0 most true) 0 most true)
    ∷ row "a*?+" (record no_flag { swap_greed = true }) unnamed (atomic_group (repeat (kept "a") 0 most true))
    ∷ []

pub quantifiers_written : texts quantifiers ≡ wanted quantifiers
unfolding pattern_text parts_in digits range operator
quantifiers_written = refl

-- ---- references

abbrev references : List Row
references =
    row "(a)\\1" unicode_alone in_numbers (seq (group (kept "a") ∷ backref 1 false ∷ []))
    ∷ row "(a)\\1(?#)1" unicode_alone in_numbers (seq (group (kept "a") ∷ backref 1 false ∷ kept "1" ∷ []))
    ∷ row "(a)\\k<1>1" unicode_alone unnamed (seq (group (kept "a") ∷ backref 1 false ∷ kept "1" ∷ []))
    ∷ row "(?<n>a)\\k<n>" unicode_alone (named "n" (1 ∷ [])) (seq (group (kept "a") ∷ backref 1 false ∷ []))
    ∷ row "(?<n>a)\\1" unicode_alone (info_with ((codes "n", (1 ∷ [])) ∷ []) true false)
    (seq (group (kept "a") ∷ backref 1 false ∷ []))
    ∷ row "(?<n>a)(?<n>b)\\k<1>\\k<n>" unicode_alone (named "n" (1 ∷ 2 ∷ []))
    (seq (group (kept "a") ∷ group (kept "b") ∷ backref 1 false ∷ backref 2 false ∷ []))
    ∷ row "(?<a b>x)\\k<1>" unicode_alone (named "a b" (1 ∷ [])) (seq (group (kept "x") ∷ backref 1 false ∷ []))
    ∷ row "\\k<0>" unicode_alone unnamed (backref 0 false)
    ∷ row "(?<n>a)\\k<n-1>(?(<n+2>)b)" unicode_alone (named "n" (1 ∷ []))
    (seq (group (kept "a") ∷ backref_at_level 1 (negsuc 0) false
    ∷ conditional (backref_exists 1 (Some (pos 2))) (kept "b") empty ∷ []))
    ∷ row "\\k<1>(?<n>a)" unicode_alone (named "n" (1 ∷ [])) (seq (backref 1 false ∷ group (kept "a") ∷ []))
    ∷ row "(?<n>a)\\g<1>" unicode_alone (info_with ((codes "n", (1 ∷ [])) ∷ []) true false)
    (seq (group (kept "a") ∷ subroutine_call 1 ∷ []))
    ∷ row "(?<n>a)\\g<n>\\g<n>" unicode_alone (named "n" (1 ∷ []))
    (seq (group (kept "a") ∷ subroutine_call 1 ∷ subroutine_call 1 ∷ []))
    ∷ row "(a)\\g<+1>(b)" unicode_alone unnamed (seq (group (kept "a") ∷ subroutine_call 2 ∷ group (kept "b") ∷ []))
    ∷ row "a\\g<0>?" unicode_alone (info_with [] true true) (seq (kept "a" ∷ repeat (subroutine_call 0) 0 1 true ∷ []))
    ∷ row "(a)\\g<-2>" unicode_alone unnamed (seq (group (kept "a") ∷ subroutine_call 0 ∷ []))
    ∷ row "\\g<-2>\\g<n>" unicode_alone unnamed
    (seq (ast_node (ast_call (relative (negsuc 1))) 2 ∷ ast_node (ast_call (by_name (codes "n"))) 8 ∷ []))
    ∷ row "(?<n>a)(?<n>b)\\g<n>" unicode_alone (named "n" (1 ∷ 2 ∷ []))
    (seq (group (kept "a") ∷ group (kept "b") ∷ ast_node (ast_call (by_name (codes "n"))) 16 ∷ []))
    ∷ row "(?P>-1)\\g'x>y'" unicode_alone unnamed
    (seq (ast_node (ast_call (by_name (codes "-1"))) 4 ∷ ast_node (ast_call (by_name (codes "x>y"))) 9 ∷ []))
    ∷ []

pub references_written : texts references ≡ wanted references
unfolding pattern_text parts_in digits range operator begins_target is_relative number_text whole_number number run
    id_reference id id_run is_id_char is_alphabetic in_ranges alphabetic_ranges general_category value_in
    general_category_rows
references_written = refl

-- ---- groups, conditionals, and what remains of a group without a number

abbrev groups : List Row
groups =
    row "(?'a>b'x)(?P<!>y)" unicode_alone (info_with ((codes "!", (2 ∷ [])) ∷ (codes "a>b", (1 ∷ [])) ∷ []) false false)
    (seq (group (kept "x") ∷ group (kept "y") ∷ []))
    ∷ row "(a)(?(1)b|c)" unicode_alone unnamed
    (seq (group (kept "a") ∷ conditional (backref_exists 1 None) (kept "b") (kept "c") ∷ []))
    ∷ row "(?(ab)c|d|e)" unicode_alone unnamed (conditional (word "ab") (kept "c") (either (kept "d" ∷ kept "e" ∷ [])))
    ∷ row "(?(a)(?:b|c)|)" unicode_alone unnamed (conditional (kept "a") (either (kept "b" ∷ kept "c" ∷ [])) empty)
    ∷ row "(a)(?(1))*" unicode_alone unnamed (seq (group (kept "a") ∷ repeat (backref_exists 1 None) 0 most true ∷ []))
    ∷ row "(?((?#)1a)b)" unicode_alone unnamed (conditional (word "1a") (kept "b") empty)
    ∷ row "(?((?#)DEFINE)b)" unicode_alone unnamed (conditional (word "DEFINE") (kept "b") empty)
    ∷ row "(?(*FAIL)a)(?(DEFINE)(b))" unicode_alone unnamed
    (seq (conditional (verb Fail) (kept "a") empty ∷ define_group (group (kept "b")) ∷ []))
    ∷ row "(?i)(?(a)b|c)(?-i)d" unicode_alone unnamed
    (seq (conditional (caseless "a") (caseless "b") (caseless "c") ∷ kept "d" ∷ []))
    ∷ row "(?(a)|b)" unicode_alone unnamed (conditional (kept "a") empty (kept "b"))
    ∷ row "(?~a|b)(?~(?#)|a)" unicode_alone unnamed
    (seq (repeater (either (kept "a" ∷ kept "b" ∷ [])) ∷ repeater (either (empty ∷ kept "a" ∷ [])) ∷ []))
    ∷ row "(?~|a)(?~|(?:a|b))(?~|)(?~|a|b)" unicode_alone unnamed
    (seq (stopper (kept "a") ∷ stopper (either (kept "a" ∷ kept "b" ∷ [])) ∷ clear ∷ expression (kept "a") (kept "b")
    ∷ []))
    ∷ row "\\K\\G\\R\\Z(*FAIL)(*SKIP)(?<!a)(?=)" unicode_alone unnamed
    (seq (keep_out ∷ continue_from_previous_match_end ∷ general_newline true
    ∷ assertion (EndTextIgnoreTrailingNewlines false) ∷ verb Fail ∷ verb Skip ∷ look_around (kept "a") LookBehindNeg
    ∷ look_around empty LookAhead ∷ []))
    ∷ row "(?:a|b)(?<n>c)d\\k<n>" names_alone (named "n" (1 ∷ []))
    (seq (either (kept "a" ∷ kept "b" ∷ []) ∷ group (kept "c") ∷ kept "d" ∷ backref 1 false ∷ []))
    ∷ row "()*()(?<n>a)((?=b))*" names_alone (named "n" (1 ∷ []))
    (seq (repeat empty 0 most true ∷ empty ∷ group (kept "a") ∷ repeat (look_around (kept "b") LookAhead) 0 most true
    ∷ []))
    ∷ row "(?<n>a)(?(<n>)())(?~|())" names_alone (named "n" (1 ∷ []))
    (seq (group (kept "a") ∷ conditional (backref_exists 1 None) empty empty ∷ stopper empty ∷ []))
    ∷ row "(^)*(?<n>)" (record oniguruma { ignore_numbered_groups = true }) (named "n" (1 ∷ []))
    (seq (repeat (assertion StartText) 0 most true ∷ group empty ∷ []))
    ∷ []

pub groups_written : texts groups ≡ wanted groups
unfolding pattern_text parts_in digits range operator begins_target is_relative number_text whole_number number run
    id_reference id id_run is_id_char is_alphabetic in_ranges alphabetic_ranges general_category value_in
    general_category_rows
groups_written = refl
