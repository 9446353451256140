-- A text for every tree, for the flags that its pattern was parsed under. It is made so that under these flags it is
-- parsed as the same tree, up to the positions of calls that refer to no group, with the same group information.
use Rattle.std.specs.Prelude.{ℕ, zero, suc, ◌+◌, ◌-◌, nat_lt, Bool, true, false, not, ◌&&◌, ◌||◌, [], ◌∷◌, ◌++◌}
use Rattle.std.specs.Prelude.{nat_eq, codes, if◌then◌else◌}
use Rattle.std.specs.List.{flat_map, starts_with}
use Rattle.std.specs.Str.{bytes_eq}
use Rattle.fancy_lex.specs.Class.{byte_text}
use Rattle.fancy_lex.specs.Number.{at_digit}
use Rattle.fancy_lex.specs.Text.{Text}
use Rattle.fancy_lex.specs.declared.flags.Flags.{Flags}
use Rattle.fancy_lex.specs.GroupReference.{begins_target}
use Rattle.fancy_grammar.specs.Join.{is_empty}
use Rattle.fancy_grammar.specs.Label.{Leaf, empty, any, assertion, general_newline, literal, literal_bytes}
use Rattle.fancy_grammar.specs.Label.{delegate, backref, backref_at_level, keep_out, continue_from_previous_match_end}
use Rattle.fancy_grammar.specs.Label.{backref_exists, subroutine_call, verb, clear, ast_node, group, ast_group}
use Rattle.fancy_grammar.specs.Label.{look_around, repeat, atomic_group, define_group, repeater, stopper, expression}
use Rattle.fancy_grammar.specs.Label.{conditional, concat, alt}
use Rattle.fancy_grammar.specs.GroupInfo.{GroupInfo}
use Rattle.fancy_grammar.specs.PatternLetters.{character, any_text, assertion_text}
use Rattle.fancy_grammar.specs.PatternNeeds.{settled, agreed, letters_between, inline_flags}
use Rattle.fancy_grammar.specs.PatternQuantifier.{is_possessive, is_quantified, quantifier_text, most_quantifiers}
use Rattle.fancy_grammar.specs.PatternReference.{backref_text, backref_at_level_text, target_text, call_text}
use Rattle.fancy_grammar.specs.PatternReference.{unresolved_text, group_opening}
use Rattle.fancy_grammar.specs.PatternSource.{delegate_text}
use Rattle.fancy_grammar.specs.Quantified.{is_repeatable}
use Rattle.fancy_grammar.specs.Tree.{Tree, leaf, over, row, Trees, no_trees, more_trees, atomic_repeat}
use Rattle.fancy_grammar.specs.Verb.{word}
use Rattle.fancy_grammar.specs.declared.kinds.LookAround.{LookAround}
use Rattle.fancy_grammar.specs.declared.kinds.LookAround.TheVariants.{LookAhead, LookAheadNeg, LookBehind}
use Rattle.fancy_grammar.specs.declared.kinds.LookAround.TheVariants.{LookBehindNeg}
use Rattle.fancy_grammar.specs.declared.kinds.BacktrackingControlVerb.{BacktrackingControlVerb}
use Rattle.fancy_grammar.specs.declared.precedence.Precedence.{Precedence}
use Rattle.fancy_grammar.specs.declared.precedence.Precedence.TheVariants.{Whole, Branch, Piece, Operand}

-- ---- the context in which a text is written

pub record Context : Type 0 where
  pub flags : Flags  -- the flags that hold there
  pub opened : ℕ  -- how many groups with a number opened before
  pub depth : ℕ  -- how many groups are open

abbrev pub under : Flags → Context → Context
under f h = record h { flags = f }

abbrev pub past_groups : ℕ → Context → Context
past_groups n h = record h { opened = h.opened + n }

abbrev pub deeper : Context → Context
deeper h = record h { depth = h.depth + 1 }

-- several pieces are allowed at this precedence
abbrev pub takes_pieces : Precedence → Bool
takes_pieces Whole = true
takes_pieces Branch = true
takes_pieces _ = false

-- several branches are allowed at this precedence
abbrev pub takes_branches : Precedence → Bool
takes_branches Whole = true
takes_branches _ = false

-- a quantifier follows
abbrev pub is_operand : Precedence → Bool
is_operand (Operand k) = true
is_operand _ = false

-- a quantifier follows, and no other is allowed before it
abbrev pub is_last_operand : Precedence → Bool
is_last_operand (Operand zero) = true
is_last_operand _ = false

-- ---- groups

-- in the parentheses of a group, after its opening
abbrev pub in_parens : Text → (Context → Text) → Context → Text
in_parens opening text h = codes "(" ++ (opening ++ (text (deeper h) ++ codes ")"))

-- in a group of its own with this opening if asked for, and otherwise at its precedence
abbrev pub in_parens_if : Bool → Text → (Precedence → Context → Text) → Precedence → Context → Text
in_parens_if true opening text p h = in_parens opening (text Whole) h
in_parens_if false opening text p h = text p h

-- after the flags that are set before the tree
abbrev pub after_inline_flags : Tree → (Context → Text) → Context → Text
after_inline_flags t text h = inline_flags h.flags (settled h.flags t) ++ text (under (settled h.flags t) h)

-- in a group that sets the flags for its contents, unless the tree may be written here directly
abbrev pub in_flag_group_unless : Bool → Tree → (Context → Text) → Context → Text
in_flag_group_unless true t text h = text h
in_flag_group_unless false t text h =
    in_parens (codes "?" ++ (letters_between h.flags (settled h.flags t) ++ codes ":")) text
    (under (settled h.flags t) h)

-- a tree that cannot be repeated is in a group if a quantifier follows; it was parsed from a group that has no number
abbrev pub as_atom : Tree → Precedence → (Context → Text) → Context → Text
as_atom t p text h = if is_operand p && not (is_repeatable h.flags t) then in_parens [] text h else text h

-- after an empty comment, if it would otherwise be read together with the text before it
abbrev pub separated_if : Bool → Text → Text
separated_if is t = if is then codes "(?#)" ++ t else t

-- ---- leaves

-- a verb without its parentheses
abbrev pub verb_text : BacktrackingControlVerb → Text
verb_text v = codes "*" ++ word v

abbrev pub parenthesized : Text → Text
parenthesized t = codes "(" ++ (t ++ codes ")")

abbrev pub leaf_text : GroupInfo → Leaf → Context → Text
leaf_text m (any newline crlf) h = any_text h.flags newline crlf
leaf_text m (assertion a) h = assertion_text h.flags a
leaf_text m (general_newline unicode) h = codes "\\R"
leaf_text m (literal s casei) h = flat_map (character h.flags casei) s
leaf_text m (literal_bytes s) h = flat_map byte_text s
leaf_text m (delegate s casei) h = delegate_text h.flags casei s
leaf_text m (backref n casei) h = backref_text m h.opened n
leaf_text m (backref_at_level n level casei) h = backref_at_level_text m h.opened n level
leaf_text m keep_out h = codes "\\K"
leaf_text m continue_from_previous_match_end h = codes "\\G"
leaf_text m (backref_exists n level) h = codes "(?" ++ (parenthesized (target_text m n level) ++ codes ")")
leaf_text m (subroutine_call n) h = call_text m h.opened n
leaf_text m (verb v) h = parenthesized (verb_text v)
leaf_text m clear h = codes "(?~|)"
leaf_text m (ast_node r position) h = unresolved_text r
leaf_text m empty h = []

-- a reference in digits: a digit after it would be read as part of it
abbrev pub is_in_digits : GroupInfo → Tree → Bool
is_in_digits m (leaf (backref n casei)) = m.numeric_capture_group_references
is_in_digits m _ = false

-- ---- quantifiers

-- how many quantifiers may come before that of a tree at this precedence
abbrev pub allowed : Precedence → Context → ℕ
allowed (Operand (suc k)) h = k
allowed _ h = most_quantifiers h.flags h.depth - 1

-- a tree under its quantifier; `text` gives the text of the tree at each precedence
abbrev pub repeated : Bool → Tree → ℕ → ℕ → Bool → (Precedence → Context → Text) → Precedence → Context → Text
repeated possessive t lo hi greedy text p h =
    text (Operand (allowed p h)) h
    ++ quantifier_text h.flags possessive (nat_lt 0 (allowed p h) && is_quantified h.flags t) lo hi greedy

-- ---- groups of more than one part

abbrev pub look_opening : LookAround → Text
look_opening LookAhead = codes "?="
look_opening LookAheadNeg = codes "?!"
look_opening LookBehind = codes "?<="
look_opening LookBehindNeg = codes "?<!"

-- a condition, with its text as an alternation, which must not be read as a target or as `DEFINE`
abbrev pub condition_text : GroupInfo → Tree → Text → Text
condition_text m (leaf (backref_exists n level)) t = target_text m n level
condition_text m (leaf (verb v)) t = verb_text v
condition_text m c t = separated_if (begins_target t || bytes_eq t (codes "DEFINE")) t

abbrev pub is_alt : Tree → Bool
is_alt (row alt ts) = true
is_alt _ = false

-- the branches of a conditional, with the texts v and w; an Alt without a bar after it would be read as both branches
abbrev pub branches_text : Tree → Tree → Text → Text → Text
branches_text t e v w =
    if is_empty t && is_empty e then codes "()"
    else v ++ (if not (is_empty e) || is_alt t then codes "|" ++ w else [])

-- an absent repeater; a bar at its start would make it another absent form
abbrev pub repeater_text : Text → Text
repeater_text t = separated_if (starts_with nat_eq t (codes "|")) t

-- a stopper; without a text it would be a clear
abbrev pub stopper_text : Text → Text
stopper_text [] = codes "()"
stopper_text (c ∷ t) = c ∷ t

-- ---- after a tree

abbrev mutual
  -- how many groups with a number
  pub group_count : Tree → ℕ
  group_count (leaf l) = 0
  group_count (over (ast_group name position) t) = 0
  group_count (over group t) = group_count t + 1
  group_count (over w t) = group_count t
  group_count (row r ts) = group_count_all ts

  pub group_count_all : Trees → ℕ
  group_count_all no_trees = 0
  group_count_all (more_trees t ts) = group_count t + group_count_all ts

abbrev mutual
  -- the flags that hold after the text of a tree at a precedence: after a group, those from before it
  pub flags_after : Tree → Precedence → Flags → Flags
  flags_after (row concat ts) p f = if takes_pieces p then flags_after_all ts Piece f else f
  flags_after (row alt ts) p f = if takes_branches p then flags_after_all ts Branch f else f
  flags_after t p f = settled f t

  pub flags_after_all : Trees → Precedence → Flags → Flags
  flags_after_all no_trees p f = f
  flags_after_all (more_trees t ts) p f = flags_after_all ts p (flags_after t p f)

abbrev pub after : Tree → Precedence → Context → Context
after t p h = past_groups (group_count t) (under (flags_after t p h.flags) h)

-- ---- the tree

module _ (m : GroupInfo) where
  abbrev mutual
    pub written : Tree → Precedence → Context → Text
    written (leaf empty) p h = if takes_pieces p then [] else codes "()"
    written (leaf l) p h = after_inline_flags (leaf l) (as_atom (leaf l) p (leaf_text m l)) h
    written (row concat ts) p h = in_flag_group_unless (takes_pieces p) (row concat ts) (written_all false ts) h
    written (row alt ts) p h = in_flag_group_unless (takes_branches p) (row alt ts) (written_branches ts) h
    written (over group t) p h =
        after_inline_flags (over group t)
        (λ i. in_parens (group_opening m (i.opened + 1)) (written t Whole) (past_groups 1 i)) h
    written (over (look_around l) t) p h =
        after_inline_flags (over (look_around l) t)
        (as_atom (over (look_around l) t) p (in_parens (look_opening l) (written t Whole))) h
    written (over (repeat lo hi greedy) t) p h =
        after_inline_flags t
        (in_parens_if (is_last_operand p) (codes "?:") (repeated false t lo hi greedy (written t)) p) h
    written (atomic_repeat t lo hi greedy) p h =
        after_inline_flags t
        (λ i. if is_last_operand p || not (is_possessive i.flags lo hi) then
        in_parens (codes "?>") (repeated false t lo hi greedy (written t) Whole) i
        else repeated true t lo hi greedy (written t) p i) h
    written (over atomic_group t) p h = after_inline_flags t (in_parens (codes "?>") (written t Whole)) h
    written (over define_group t) p h = after_inline_flags t (in_parens (codes "?(DEFINE)") (written t Whole)) h
    written (over repeater t) p h = after_inline_flags t
        (in_parens (codes "?~") (λ i. repeater_text (written t Whole i))) h
    written (over stopper t) p h = after_inline_flags t
        (in_parens (codes "?~|") (λ i. stopper_text (written t Branch i))) h
    written (row expression (more_trees a (more_trees e no_trees))) p h =
        after_inline_flags (row expression (more_trees a (more_trees e no_trees)))
        (in_parens (codes "?~|") (λ i. written a Branch i ++ (codes "|" ++ written e Branch (after a Branch i)))) h
    written (row conditional (more_trees c (more_trees t (more_trees e no_trees)))) p h =
        after_inline_flags (row conditional (more_trees c (more_trees t (more_trees e no_trees))))
        (in_parens (codes "?") (λ i. let j = after c Whole i in parenthesized (condition_text m c (written c Whole i))
        ++ branches_text t e (written t Branch j) (written e Whole (after t Branch j)))) h
    written _ p h = []

    -- one after another; the flag says that a reference in digits comes just before
    pub written_all : Bool → Trees → Context → Text
    written_all after_digits no_trees h = []
    written_all after_digits (more_trees t ts) h =
        separated_if (after_digits && at_digit (written t Piece h)) (written t Piece h)
        ++ written_all (is_in_digits m t) ts (after t Piece h)

    -- with bars between
    pub written_branches : Trees → Context → Text
    written_branches no_trees h = []
    written_branches (more_trees t ts) h = written t Branch h ++ written_barred ts (after t Branch h)

    -- with a bar before each
    pub written_barred : Trees → Context → Text
    written_barred no_trees h = []
    written_barred (more_trees t ts) h = codes "|" ++ (written t Branch h ++ written_barred ts (after t Branch h))

-- the text of a whole tree that was parsed under the flags f with the group information m
unfoldable pub pattern_text : Flags → Tree → GroupInfo → Text
pattern_text f t m =
    inline_flags f (agreed f t) ++ written m t Whole (record { flags = agreed f t; opened = 0; depth = 0 })
