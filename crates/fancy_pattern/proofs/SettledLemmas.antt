-- Writers of trees, before which flags are set.
use Rattle.std.proofs.Common.{◌≡◌, ◌+◌, Bool, true, false, not, ◌&&◌, List, [], ◌∷◌, ◌++◌, subst, append_assoc}
use Rattle.std.proofs.Common.{append-nil, sym, refl, ap, ◌∙◌, codes, if◌then◌else◌, arith}
use Rattle.std.specs.List.{flat_map}
use Rattle.fancy_lex.specs.Text.{Text}
use Rattle.fancy_lex.specs.declared.flags.Flags.{Flags}
use Rattle.fancy_grammar.specs.Label as label
use Rattle.fancy_grammar.specs.GroupInfo.{GroupInfo}
use Rattle.fancy_grammar.specs.Pattern.{Context, under, past_groups, takes_pieces, is_operand, after_inline_flags}
use Rattle.fancy_grammar.specs.Pattern.{in_flag_group_unless, as_atom, in_parens, deeper, written}
use Rattle.fancy_grammar.specs.Pattern.{group_count, flags_after, after, pattern_text}
use Rattle.fancy_grammar.specs.PatternLetters.{character}
use Rattle.fancy_grammar.specs.PatternNeeds.{no_needs, first, needs, with_needs, settled, agreed, inline_flags}
use Rattle.fancy_grammar.specs.PatternNeeds.{turns_on, letters_between}
use Rattle.fancy_grammar.specs.PatternWalk.{needs_listed, all_listed}
use Rattle.fancy_grammar.specs.Tree.{Tree, leaf, over, row, Trees, empty, literal, is_leaf}
use Rattle.fancy_grammar.specs.declared.needs.Needs.{Needs}
use Rattle.fancy_grammar.specs.declared.precedence.Precedence.{Precedence}
use Rattle.fancy_grammar.specs.declared.precedence.Precedence.TheVariants.{Whole}
use Rattle.fancy_pattern.proofs.ContextLemmas.{mode_after}
use Rattle.fancy_pattern.specs.TextOutput.{Added}
use Rattle.fancy_pattern.specs.ContextViews.{Known, Allows, IsContext, leaf_text_of}
use Rattle.fancy_pattern.specs.Writers.{Writes, WritesTree, WritesSettled, WritesFlags, Passes, Leaves, Sets}
use Rattle.fancy_pattern.specs.Writers.{needs_below, takes_inline_flags}
use Rattle.fancy_pattern.specs.declared.context.Context as code
use Rattle.fancy_pattern.specs.declared.output.TextOutput.{TextOutput}
use Rattle.fancy_pattern.proofs.KnownLemmas.{allowed_next, allowed_whole}
use Rattle.fancy_pattern.proofs.OutputLemmas.{added_nothing, added_as, then_added}
use Rattle.fancy_pattern.proofs.WritesLemmas.{KeepsMode, writes_as, then_writes, past_writes, text_writes}
use Rattle.fancy_pattern.proofs.WritesLemmas.{positioned_writes}

pub keeps_after : (t : Tree) (p : Precedence) → KeepsMode (after t p)
keeps_after t p h = mode_after t p h.flags.oniguruma_mode h.flags refl

pub no_more_groups : (h : Context) → h ≡ past_groups 0 h
no_more_groups h =
    let same : h.opened ≡ h.opened + 0 = omega arith in
    λ i. record { flags = h.flags; opened = same i; depth = h.depth }

-- ---- flags that are set

never_on : (b : Bool) → (b && not b) ≡ false
never_on true = refl
never_on false = refl

pub nothing_on : (f : Flags) → turns_on f f ≡ false
nothing_on f =
    let c = never_on f.casei in
    let m = never_on f.multi in
    let d = never_on f.dotnl in
    let r = never_on f.crlf in
    rw (c, m, d, r) refl

pub nothing_set : (f : Flags) → inline_flags f f ≡ []
nothing_set f = rw (nothing_on f) refl

settled_flags : (t : Tree) (p : Precedence) (f : Flags) → takes_inline_flags t ≡ true → flags_after t p f ≡ settled f t
settled_flags (leaf l) p f e = refl
settled_flags (over w t) p f e = refl
settled_flags (row label.concat ts) p f e = absurd (cc)
settled_flags (row label.alt ts) p f e = absurd (cc)
settled_flags (row label.expression ts) p f e = refl
settled_flags (row label.conditional ts) p f e = refl

settled_end : (t : Tree) (p : Precedence) (h : Context) → takes_inline_flags t ≡ true →
    past_groups (group_count t) (under (settled h.flags t) h) ≡ after t p h
settled_end t p h e = ap (λ f. past_groups (group_count t) (under f h)) (sym (settled_flags t p h.flags e))

listed_node : (o : Bool) (t : Tree) → needs_listed o t ≡ needs first o t ∷ needs_below o t
listed_node o (over (label.ast_group name position) t) = refl
listed_node o t = refl

-- ---- a leaf

no_atom : (b : Bool) (text : Context → Text) (h : Context) →
    (if b && false then in_parens [] text h else text h) ≡ text h
no_atom true text h = refl
no_atom false text h = refl

leaf_settled : (m : GroupInfo) (t : Tree) (p : Precedence) (h : Context) → is_leaf t ≡ true → takes_inline_flags t ≡ true →
    written m t p h ≡ after_inline_flags t (as_atom t p (leaf_text_of m t)) h
leaf_settled m (leaf label.empty) p h e k = absurd (cc)
leaf_settled m (leaf l) p h e k = refl
leaf_settled m (over (label.ast_group name position) t) p h e k =
    sym (ap (λ s. s ++ as_atom (over (label.ast_group name position) t) p (λ i. []) h) (nothing_set h.flags)
    ∙ no_atom (is_operand p) (λ i. []) h)
leaf_settled m t p h e k = absurd (cc)

leaf_below : (o : Bool) (t : Tree) → is_leaf t ≡ true → [] ≡ needs_below o t
leaf_below o (leaf l) e = refl
leaf_below o (over (label.ast_group name position) t) e = refl
leaf_below o t e = absurd (cc)

leaf_groups : (t : Tree) → is_leaf t ≡ true → 0 ≡ group_count t
leaf_groups (leaf l) e = refl
leaf_groups (over (label.ast_group name position) t) e = refl
leaf_groups t e = absurd (cc)

pub leaf_writes : (a b : TextOutput) (i j : code.Context) (m : GroupInfo) (t : Tree) (p : Precedence) → is_leaf t ≡ true →
    takes_inline_flags t ≡ true → Writes a b i j (λ o. []) (as_atom t p (leaf_text_of m t)) (λ h. h) →
    WritesSettled a b i j m t p
leaf_writes a b i j m t p e k w = record {
  text = as_atom t p (leaf_text_of m t);
  is = λ h. leaf_settled m t p h e k;
  writes = writes_as a b i j _ _ _ _ _ _ w (λ o. leaf_below o t e) (λ h. refl)
      (λ h. no_more_groups h ∙ ap (λ n. past_groups n h) (leaf_groups t e));
}

-- ---- any tree, after the flags that it needs

-- the flags that a node needs are set
pub flags_set : (a b : TextOutput) (i j k : code.Context) (d : Needs) (text : Flags → Flags → Text)
    (next : Context → Context) → ((s : Known) (h : Context) (n : Needs) (l : List Needs) → IsContext s i h (n ∷ l) →
    (with_needs h.flags d ≡ with_needs h.flags n) × IsContext s j h l) →
    Added a b (text j.flags (with_needs j.flags d)) → Sets j k d next → WritesFlags a b i k text next
flags_set a b i j k d text next passes sets at n = record {
  writes = λ s h l is.
      let e = n h.flags.oniguruma_mode in
      let past = passes s h e l is in
      let allowed = subst (Allows s) (sym past.0) (allowed_next s h.flags i.needs.now e l is.needs) in (
        added_as a b _ _ sets (ap (λ f. text f (with_needs f d)) past.1.flags ∙ ap (text h.flags) past.0),
        subst (λ f. IsContext s k (next (under f h)) l) past.0 (at s h l allowed past.1),
      );
}

-- they are set already
pub flags_kept : (a : TextOutput) (i j : code.Context) → ((s : Known) (h : Context) (n : Needs) (l : List Needs) →
    IsContext s i h (n ∷ l) → IsContext s j h l × (h.flags ≡ with_needs h.flags n)) →
    WritesFlags a a i j inline_flags (λ h. h)
flags_kept a i j passes n = record {
  writes = λ s h l is.
      let (past, same) = passes s h (n h.flags.oniguruma_mode) l is in (
        added_as a a _ _ (added_nothing a) (sym (nothing_set h.flags) ∙ ap (inline_flags h.flags) same),
        subst (λ f. IsContext s j (under f h) l) same past,
      );
}

-- no flag has to be set
pub sets_nothing : (i : code.Context) (n : Needs) → with_needs i.flags n ≡ i.flags → Sets i i n (λ h. h)
sets_nothing i n met s h l allowed is =
    let same : h.flags ≡ with_needs h.flags n = sym is.flags ∙ sym met ∙ ap (λ f. with_needs f n) is.flags in
    subst (λ f. IsContext s i (under f h) l) same is

-- the flags that the tree needs are set, and then what follows them is written
pub settled_writes : (a b c : TextOutput) (i j k : code.Context) (m : GroupInfo) (t : Tree) (p : Precedence) →
    takes_inline_flags t ≡ true → WritesFlags a b i j inline_flags (λ h. h) → WritesSettled b c j k m t p →
    WritesTree a c i k m t p
settled_writes a b c i j k m t p takes sets w =
    writes_as a c i k _ _ _ _ _ _
    (then_writes a b c i j k _ _ _ _ _ _ (λ h. refl) (sets (λ o. needs first o t)) w.writes)
    (λ o. sym (listed_node o t)) (λ h. sym (w.is h)) (λ h. settled_end t p h takes)

-- a Literal is never in a group
pub literal_writes : (a b c : TextOutput) (i j : code.Context) (m : GroupInfo) (s : Text) (casei : Bool) (p : Precedence) →
    WritesFlags a b i j inline_flags (λ h. h) → Added b c (flat_map (character j.flags casei) s) →
    WritesTree a c i j m (literal s casei) p
literal_writes a b c i j m s casei p sets w =
    settled_writes a b c i j j m (literal s casei) p refl sets
    (leaf_writes b c j j m (literal s casei) p refl refl
    (positioned_writes b c j _ (λ k h l is. added_as b c _ _ w (ap (λ f. flat_map (character f casei) s) is.flags
    ∙ sym (no_atom (is_operand p) (leaf_text_of m (literal s casei)) h)))))

pub empty_writes : (a b : TextOutput) (i j : code.Context) (m : GroupInfo) (p : Precedence) → Passes i j →
    Added a b (if takes_pieces p then [] else codes "()") → WritesTree a b i j m empty p
empty_writes a b i j m p past w =
    writes_as a b i j _ _ _ _ _ _ (past_writes a b i j j (λ o. no_needs) _ _ _ past (text_writes a b j _ w))
    (λ o. refl) (λ h. refl) no_more_groups

-- ---- a row, in a group if it needs one

pub flag_group_writes : (a b c d : TextOutput) (i j k e : code.Context) (r : label.Row) (ts : Trees)
    (text : Context → Text) (next : Context → Context) →
    WritesFlags a b i j (λ f g. codes "(?" ++ (letters_between f g ++ codes ":")) deeper →
    Writes b c j k (λ o. all_listed o ts) text next → Added c d (codes ")") → Leaves i k e →
    Writes a d i e (λ o. needs_listed o (row r ts)) (in_flag_group_unless false (row r ts) text)
    (λ h. record h { opened = (next (deeper (under (settled h.flags (row r ts)) h))).opened })
flag_group_writes a b c d i j k e r ts text next opens w closes out = record {
  writes = λ s h l is.
      let o = h.flags.oniguruma_mode in
      let g = settled h.flags (row r ts) in
      let inside = deeper (under g h) in
      let opening = codes "?" ++ (letters_between h.flags g ++ codes ":") in
      let one = (opens (λ o. needs first o (row r ts))).writes s h (all_listed o ts ++ l) is in
      let two = w.writes s inside l one.1 in
      let all = then_added a c d ((codes "(" ++ opening) ++ text inside) (codes ")")
      (then_added a b c (codes "(" ++ opening) (text inside) one.0 two.0) closes in (
        added_as a d _ _ all
            (append_assoc (codes "(" ++ opening) (text inside) (codes ")")
            ∙ append_assoc (codes "(") opening (text inside ++ codes ")")),
        out s h (next inside) (needs_listed o (row r ts) ++ l) l is two.1,
      );
}

-- ---- the whole

pub pattern_writes : (a b c : TextOutput) (i j k : code.Context) (n : Needs) (m : GroupInfo) (t : Tree) (f : Flags)
    (s : Known) → with_needs f n ≡ agreed f t →
    IsContext s i (record { flags = f; opened = 0; depth = 0 }) (needs_listed f.oniguruma_mode t) →
    Added a b (inline_flags i.flags (with_needs i.flags n)) → Sets i j n (λ h. h) →
    WritesTree b c j k m t Whole → Added a c (pattern_text f t m)
unfolding pattern_text
pattern_writes a b c i j k n m t f s e is sets at w =
    let start : Context = record { flags = f; opened = 0; depth = 0 } in
    let nodes = needs_listed f.oniguruma_mode t in
    let set : inline_flags i.flags (with_needs i.flags n) ≡ inline_flags f (agreed f t) =
    ap (λ g. inline_flags g (with_needs g n)) is.flags ∙ ap (inline_flags f) e in
    let allowed = subst (Allows s) (sym e) (allowed_whole s f i.needs.now t is.needs) in
    let context = subst (λ g. IsContext s j (under g start) (nodes ++ [])) e
    (at s start (nodes ++ []) allowed (subst (IsContext s i start) (sym (append-nil nodes)) is)) in
    then_added a b c _ _ (added_as a b _ _ sets set) (w.writes s (under (agreed f t) start) [] context).0
