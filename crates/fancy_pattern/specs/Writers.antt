-- What the writers of a walk over a tree write.
use Rattle.std.specs.Prelude.{◌≡◌, ◌++◌, Bool, true, false, List, [], ◌∷◌}
use Rattle.fancy_lex.specs.Text.{Text}
use Rattle.fancy_grammar.specs.GroupInfo.{GroupInfo}
use Rattle.fancy_lex.specs.declared.flags.Flags.{Flags}
use Rattle.fancy_grammar.specs.Pattern.{Context, under, after_inline_flags, past_groups, group_count, written, after}
use Rattle.fancy_grammar.specs.Pattern.{branches_text}
use Rattle.fancy_grammar.specs.PatternNeeds.{with_needs}
use Rattle.fancy_grammar.specs.PatternWalk.{needs_listed, all_listed}
use Rattle.fancy_grammar.specs.Tree.{Tree, no_trees, more_trees, empty, concat, alt}
use Rattle.fancy_grammar.specs.declared.needs.Needs.{Needs}
use Rattle.fancy_grammar.specs.declared.precedence.Precedence.{Precedence}
use Rattle.fancy_grammar.specs.declared.precedence.Precedence.TheVariants.{Whole, Branch}
use Rattle.fancy_pattern.specs.TextOutput.{Added}
use Rattle.fancy_pattern.specs.ContextViews.{Known, Allows, IsContext}
use Rattle.fancy_pattern.specs.declared.context.Context as code
use Rattle.fancy_pattern.specs.declared.output.TextOutput.{TextOutput}

-- ---- how a context changes

-- as `next` says, before the same nodes
abbrev pub Moves : code.Context → code.Context → (Context → Context) → Type 0
Moves from to next = (k : Known) (h : Context) (l : List Needs) → IsContext k from h l → IsContext k to (next h) l

-- past a node
abbrev pub Passes : code.Context → code.Context → Type 0
Passes from to = (k : Known) (h : Context) (n : Needs) (l : List Needs) → IsContext k from h (n ∷ l) → IsContext k to h l

-- out of a group that is at `outside`
abbrev pub Leaves : code.Context → code.Context → code.Context → Type 0
Leaves outside from to =
    (k : Known) (h e : Context) (x l : List Needs) → IsContext k outside h x → IsContext k from e l →
    IsContext k to (record h { opened = e.opened }) l

-- with the flags set to what is needed, if they may be set so, and then as `next` says
abbrev pub Sets : code.Context → code.Context → Needs → (Context → Context) → Type 0
Sets from to n next = (k : Known) (h : Context) (l : List Needs) → Allows k (with_needs h.flags n) →
    IsContext k from h l → IsContext k to (next (under (with_needs h.flags n) h)) l

-- ---- writers

-- in the first context, a writer wrote this text, passed nodes with these needs in the current mode, and ended in the
-- context of what follows
pub record Writes (old new : TextOutput) (from to : code.Context) (needs : Bool → List Needs)
    (text : Context → Text) (next : Context → Context) : Type 0 where
  pub writes : (k : Known) (h : Context) (l : List Needs) → IsContext k from h (needs h.flags.oniguruma_mode ++ l) →
      Added old new (text h) × IsContext k to (next h) l

-- a writer wrote the tree at this precedence, and passed its nodes
abbrev pub WritesTree : TextOutput → TextOutput → code.Context → code.Context → GroupInfo → Tree → Precedence → Type 0
WritesTree old new from to m t p = Writes old new from to (λ o. needs_listed o t) (written m t p) (after t p)

-- a writer wrote the branches of a conditional, and passed their nodes
abbrev pub WritesChoice : TextOutput → TextOutput → code.Context → code.Context → GroupInfo → Tree → Tree → Type 0
WritesChoice old new from to m t e = Writes old new from to (λ o. all_listed o (more_trees t (more_trees e no_trees)))
    (λ h. branches_text t e (written m t Branch h) (written m e Whole (after t Branch h)))
    (λ h. after e Whole (after t Branch h))

-- ---- flags that are set before a tree

-- the flags with what a node needs
abbrev pub needed : Flags → (Bool → Needs) → Flags
needed f n = with_needs f (n f.oniguruma_mode)

-- whatever the next node needs: a writer passed it, and wrote this text, which sets the flags that it needs
abbrev pub WritesFlags : TextOutput → TextOutput → code.Context → code.Context → (Flags → Flags → Text) →
    (Context → Context) → Type 0
WritesFlags old new from to text next = (n : Bool → Needs) → Writes old new from to (λ o. n o ∷ [])
    (λ h. text h.flags (needed h.flags n)) (λ h. next (under (needed h.flags n) h))

-- whether flags are set before the tree: it is no Empty, no Concat and no Alt
abbrev pub takes_inline_flags : Tree → Bool
takes_inline_flags empty = false
takes_inline_flags (concat ts) = false
takes_inline_flags (alt ts) = false
takes_inline_flags _ = true

abbrev past_first : List Needs → List Needs
past_first [] = []
past_first (n ∷ l) = l

-- what the nodes below a tree need
abbrev pub needs_below : Bool → Tree → List Needs
needs_below o t = past_first (needs_listed o t)

-- a writer wrote what follows the flags that are set before the tree
pub record WritesSettled (old new : TextOutput) (from to : code.Context) (m : GroupInfo) (t : Tree) (p : Precedence) :
    Type 0 where
  pub text : Context → Text
  pub is : (h : Context) → written m t p h ≡ after_inline_flags t text h
  pub writes : Writes old new from to (λ o. needs_below o t) text (past_groups (group_count t))
