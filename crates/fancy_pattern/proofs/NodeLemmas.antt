-- Writers of nodes, each made of the writers of its children.
use Rattle.std.proofs.Common.{◌≡◌, ℕ, ◌+◌, nat_lt, Bool, true, false, not, ◌&&◌, ◌||◌, List, [], ◌∷◌, ◌++◌, subst}
use Rattle.std.proofs.Common.{append_assoc, append-nil, sym, refl, ap, ◌∙◌, codes, if◌then◌else◌, arith}
use Rattle.std.specs.Prelude.{Result, Ok, Err, OnOk}
use Rattle.std.proofs.lemmas.Str.{len_utf8_bounds}
use Rattle.fancy_lex.specs.Text.{Text, text_of, bytes}
use Rattle.fancy_lex.specs.declared.flags.Flags.{Flags}
use Rattle.fancy_lex.proofs.TextLemmas.{bytes-append}
use Rattle.fancy_grammar.specs.Join.{is_empty}
use Rattle.fancy_grammar.specs.Label as label
use Rattle.fancy_grammar.specs.GroupInfo.{GroupInfo}
use Rattle.fancy_grammar.specs.Pattern.{Context, deeper, past_groups, in_parens, in_parens_if, as_atom, is_operand}
use Rattle.fancy_grammar.specs.Pattern.{is_last_operand, after_inline_flags, allowed, repeated, written, group_count}
use Rattle.fancy_grammar.specs.Pattern.{after, condition_text, branches_text, is_alt, repeater_text, stopper_text}
use Rattle.fancy_grammar.specs.Pattern.{look_opening, takes_pieces, takes_branches, in_flag_group_unless, written_all}
use Rattle.fancy_grammar.specs.Pattern.{written_branches, parenthesized}
use Rattle.fancy_grammar.specs.PatternNeeds.{first, needs_all}
use Rattle.fancy_grammar.specs.PatternQuantifier.{is_possessive, is_quantified, quantifier_text}
use Rattle.fancy_grammar.specs.PatternReference.{group_opening}
use Rattle.fancy_grammar.specs.PatternWalk.{needs_listed, all_listed, after_all}
use Rattle.fancy_grammar.specs.Quantified.{is_repeatable}
use Rattle.fancy_grammar.specs.Tree.{Tree, leaf, over, Trees, empty, group, look_around, repeat, atomic_repeat}
use Rattle.fancy_grammar.specs.Tree.{atomic_group, define_group, repeater, stopper, expression, conditional, concat, alt}
use Rattle.fancy_grammar.specs.declared.kinds.LookAround.{LookAround}
use Rattle.fancy_grammar.specs.declared.needs.Needs.{Needs}
use Rattle.fancy_grammar.specs.declared.precedence.Precedence.{Precedence}
use Rattle.fancy_grammar.specs.declared.precedence.Precedence.TheVariants.{Whole, Branch, Piece, Operand}
use Rattle.fancy_pattern.specs.TextOutput.{Added, Changed, separated}
use Rattle.fancy_pattern.specs.ContextViews.{Known, IsContext}
use Rattle.fancy_pattern.specs.Writers.{Writes, WritesTree, WritesSettled, WritesChoice, Moves, Passes, Leaves, needs_below}
use Rattle.fancy_pattern.specs.declared.context.Context as code
use Rattle.fancy_pattern.specs.declared.output.TextOutput.{TextOutput}
use Rattle.fancy_pattern.specs.declared.separator.Separator.TheVariants.{Condition}
use Rattle.fancy_pattern.proofs.SettledLemmas.{keeps_after, no_more_groups}
use Rattle.fancy_pattern.proofs.OutputLemmas.{added_as, then_added}
use Rattle.fancy_pattern.proofs.WritesLemmas.{then_writes, text_writes, writes_as}
use Rattle.fancy_pattern.proofs.WritesLemmas.{parens_writes, past_writes}

-- ---- tests

and_true : (b : Bool) → b ≡ (b && true)
and_true true = refl
and_true false = refl

-- a Repeat
abbrev pub is_repeat : Tree → Bool
is_repeat (over (label.repeat lo hi greedy) t) = true
is_repeat _ = false

-- a condition that is written with the text that it has elsewhere
abbrev pub is_text_condition : Tree → Bool
is_text_condition (leaf (label.backref_exists n level)) = false
is_text_condition (leaf (label.verb v)) = false
is_text_condition _ = true

empty_is : (t : Tree) → is_empty t ≡ true → t ≡ empty
empty_is (leaf label.empty) e = refl
empty_is t e = absurd (cc)

both_true : (a b : Bool) → (a && b) ≡ true → (a ≡ true) × (b ≡ true)
both_true true true e = (refl, refl)
both_true true false e = absurd (cc)
both_true false b e = absurd (cc)

neither : (a b : Bool) → (not a || b) ≡ false → a ≡ true
neither true b e = refl
neither false b e = absurd (cc)

text_condition : (m : GroupInfo) (c : Tree) (t : Text) → is_text_condition c ≡ true →
    separated Condition t ≡ condition_text m c t
text_condition m (leaf (label.backref_exists n level)) t e = absurd (cc)
text_condition m (leaf (label.verb v)) t e = absurd (cc)
text_condition m c t e = refl

atomic_alone : (m : GroupInfo) (t : Tree) (p : Precedence) (h : Context) → is_repeat t ≡ false →
    written m (atomic_group t) p h ≡ after_inline_flags (atomic_group t) (in_parens (codes "?>") (written m t Whole)) h
atomic_alone m (over (label.repeat lo hi greedy) t) p h e = absurd (cc)
atomic_alone m t p h e = refl

-- ---- a text without bytes

no_bytes : (u : Text) → bytes u ≡ 0 → u ≡ []
unfolding bytes
no_bytes [] e = refl
no_bytes (c ∷ u) e = absurd (omega (arith, (len_utf8_bounds c).0))

filled : (a b : TextOutput) (len position : ℕ) → len ≡ bytes (text_of a.text) → len ≡ position →
    Added a b (codes "()") → Changed a b position stopper_text
filled a b len position at e p = record {
  changes = λ t u h k.
      let long = bytes-append t u in
      let whole = ap bytes h in
      let none : u ≡ [] = no_bytes u (omega (arith, whole)) in
      p.after ∙ ap (λ x. x ++ codes "()") (h ∙ ap (λ x. t ++ x) none ∙ append-nil t)
      ∙ ap (λ x. t ++ stopper_text x) (sym none);
}

pub filled_where : {X E : Type 0} (r : Result X E) (a b : TextOutput) (len position : ℕ) →
    len ≡ bytes (text_of a.text) → len ≡ position → OnOk r (Added a b (codes "()")) →
    OnOk r (Changed a b position stopper_text)
filled_where (Ok v) a b len position at e p = filled a b len position at e p
filled_where (Err v) a b len position at e p = p

-- ---- in a group, if it needs one

pub atom_writes : (a b : TextOutput) (i j : code.Context) (t : Tree) (p : Precedence) (l : Bool → List Needs)
    (text : Context → Text)
    (n : Context → Context) (choice : Bool) → choice ≡ (is_operand p && not (is_repeatable i.flags t)) →
    Writes a b i j l (λ h. if choice then in_parens [] text h else text h) n →
    Writes a b i j l (as_atom t p text) n
atom_writes a b i j t p l text n choice e w = record {
  writes = λ s h r is.
      let done = w.writes s h r is in
      let same = e ∙ ap (λ f. is_operand p && not (is_repeatable f t)) is.flags in
      (added_as a b _ _ done.0 (ap (λ b. if b then in_parens [] text h else text h) same), done.1);
}

pub look_writes : (a b : TextOutput) (i j : code.Context) (t : Tree) (k : LookAround) (p : Precedence) (l : Bool → List Needs)
    (text : Context → Text) (n : Context → Context) (choice : Bool) → choice ≡ is_operand p →
    Writes a b i j l (λ h. if choice then in_parens [] text h else text h) n →
    Writes a b i j l (as_atom (look_around t k) p text) n
look_writes a b i j t k p l text n choice e w =
    atom_writes a b i j (look_around t k) p l text n choice (e ∙ and_true (is_operand p)) w

pub last_writes : (a b : TextOutput) (i j : code.Context) (p : Precedence) (opening : Text) (l : Bool → List Needs)
    (text : Precedence → Context → Text) (n : Context → Context) (choice : Bool) → choice ≡ is_last_operand p →
    Writes a b i j l (in_parens_if choice opening text p) n →
    Writes a b i j l (in_parens_if (is_last_operand p) opening text p) n
last_writes a b i j p opening l text n choice e w =
    subst (λ x. Writes a b i j l (in_parens_if x opening text p) n) e w

-- ---- trees, each from its writer

-- a capturing group; its opening is that of the number that the position inside has reached
pub group_writes : (a b c d e : TextOutput) (i j k o z : code.Context) (m : GroupInfo) (t : Tree) →
    Added a b (codes "(" ++ []) → Moves i j deeper → Moves j k (past_groups 1) →
    Added b c (group_opening m k.opened) → WritesTree c d k o m t Whole → Added d e (codes ")") → Leaves i o z →
    Writes a e i z (λ o. needs_listed o t)
    (λ h. in_parens (group_opening m (h.opened + 1)) (written m t Whole) (past_groups 1 h))
    (past_groups (group_count t + 1))
group_writes a b c d e i j k o z m t opens at next opening w closes out = record {
  writes = λ s h l is.
      let l0 = needs_listed h.flags.oniguruma_mode t ++ l in
      let inside = next s (deeper h) l0 (at s h l0 is) in
      let name = added_as b c _ _ opening (ap (group_opening m) inside.opened) in
      let done = w.writes s (past_groups 1 (deeper h)) l inside in
      let front = then_added a b c (codes "(" ++ []) (group_opening m (h.opened + 1)) opens name in
      let two = then_added a c d _ _ front done.0 in
      let all = then_added a d e _ _ two closes in
      let groups : h.opened + 1 + group_count t ≡ h.opened + (group_count t + 1) = omega arith in (
        added_as a e _ _ all
            (append_assoc (codes "(" ++ group_opening m (h.opened + 1)) (written m t Whole (past_groups 1 (deeper h)))
            (codes ")")),
        subst (λ n. IsContext s z (record h { opened = n }) l) groups
            (out s h (after t Whole (past_groups 1 (deeper h))) l0 l is done.1),
      );
}

pub quantified_writes : (a b c : TextOutput) (i j k : code.Context) (m : GroupInfo) (t : Tree) (p : Precedence)
    (possessive : Bool)
    (lo hi : ℕ) (greedy : Bool) (left : ℕ) →
    ((s : Known) (h : Context) (l : List Needs) → IsContext s i h l → left ≡ allowed p h) →
    WritesTree a b i j m t (Operand left) →
    Added b c (quantifier_text i.flags possessive (nat_lt 0 left && is_quantified i.flags t) lo hi greedy) →
    Leaves i j k →
    Writes a c i k (λ o. needs_listed o t) (repeated possessive t lo hi greedy (written m t) p)
    (past_groups (group_count t))
quantified_writes a b c i j k m t p possessive lo hi greedy left enough w symbol out = record {
  writes = λ s h l is.
      let l0 = needs_listed h.flags.oniguruma_mode t ++ l in
      let done = w.writes s h l is in
      let same : left ≡ allowed p h = enough s h l0 is in
      let all = then_added a b c _ _ done.0 symbol in
      let quantifier_of : (f : Flags) → Text
      = λ f. quantifier_text f possessive (nat_lt 0 left && is_quantified f t) lo hi greedy in (
        added_as a c _ _ all
            (ap (λ f. written m t (Operand left) h ++ quantifier_of f) is.flags
            ∙ ap (λ n. written m t (Operand n) h
            ++ quantifier_text h.flags possessive (nat_lt 0 n && is_quantified h.flags t) lo hi greedy) same),
        out s h (after t (Operand left) h) l0 l is done.1,
      );
}

pub atomic_writes : (a b : TextOutput) (i j : code.Context) (m : GroupInfo) (t : Tree) (lo hi : ℕ) (greedy : Bool)
    (p : Precedence)
    (choice : Bool) → choice ≡ (is_last_operand p || not (is_possessive i.flags lo hi)) →
    Writes a b i j (λ o. needs_below o (atomic_repeat t lo hi greedy))
    (λ h. if choice then in_parens (codes "?>") (repeated false t lo hi greedy (written m t) Whole) h
    else repeated true t lo hi greedy (written m t) p h) (past_groups (group_count t)) →
    WritesSettled a b i j m (atomic_repeat t lo hi greedy) p
atomic_writes a b i j m t lo hi greedy p choice e w = record {
  text = λ h. if is_last_operand p || not (is_possessive h.flags lo hi) then
      in_parens (codes "?>") (repeated false t lo hi greedy (written m t) Whole) h
      else repeated true t lo hi greedy (written m t) p h;
  is = λ h. refl;
  writes = record {
    writes = λ s h l is.
        let done = w.writes s h l is in
        let same = e ∙ ap (λ f. is_last_operand p || not (is_possessive f lo hi)) is.flags in (
          added_as a b _ _ done.0
              (ap (λ b. if b then in_parens (codes "?>") (repeated false t lo hi greedy (written m t) Whole) h
              else repeated true t lo hi greedy (written m t) p h) same),
          done.1,
        );
  };
}

pub atomic_in_group : (a b : TextOutput) (i j : code.Context) (m : GroupInfo) (t : Tree) (p : Precedence) → is_repeat t ≡ false →
    Writes a b i j (λ o. needs_listed o t) (in_parens (codes "?>") (written m t Whole))
    (past_groups (group_count t)) →
    WritesSettled a b i j m (atomic_group t) p
atomic_in_group a b i j m t p e w = record {
  text = in_parens (codes "?>") (written m t Whole);
  is = λ h. atomic_alone m t p h e;
  writes = w;
}

-- ---- conditionals

leaf_after : (l : label.Leaf) (p : Precedence) (h : Context) → is_text_condition (leaf l) ≡ false →
    h ≡ after (leaf l) p h
leaf_after (label.backref_exists n level) p h e = no_more_groups h
leaf_after (label.verb v) p h e = no_more_groups h
leaf_after l p h e = absurd (cc)

-- a condition that is written as a word of its own
pub word_writes : (a b : TextOutput) (i j : code.Context) (m : GroupInfo) (l : label.Leaf) (text : Text) →
    is_text_condition (leaf l) ≡ false → ((t : Text) → condition_text m (leaf l) t ≡ text) → Added a b text →
    Passes i j →
    Writes a b i j (λ o. needs_listed o (leaf l)) (λ h. condition_text m (leaf l) (written m (leaf l) Whole h))
    (after (leaf l) Whole)
word_writes a b i j m l text e is p past = record {
  writes = λ s h r at. (
    added_as a b _ _ p (sym (is (written m (leaf l) Whole h))),
    subst (λ g. IsContext s j g r) (leaf_after l Whole h e) (past s h _ r at),
  );
}

pub condition_writes : (a b : TextOutput) (i j : code.Context) (m : GroupInfo) (c : Tree) → is_text_condition c ≡ true →
    Writes a b i j (λ o. needs_listed o c) (λ h. separated Condition (written m c Whole h)) (after c Whole) →
    Writes a b i j (λ o. needs_listed o c) (λ h. condition_text m c (written m c Whole h)) (after c Whole)
condition_writes a b i j m c e w =
    writes_as a b i j _ _ _ _ _ _ w (λ o. refl) (λ h. text_condition m c (written m c Whole h) e) (λ h. refl)

chosen : (none bar : Bool) (v w : Text) → (none ≡ true → (v ≡ []) × ((bar ≡ false) × (w ≡ []))) →
    (bar ≡ false → w ≡ []) →
    (if none then codes "()" else []) ++ (v ++ ((if bar then codes "|" else []) ++ w))
    ≡ (if none then codes "()" else v ++ (if bar then codes "|" ++ w else []))
chosen true bar v w e n =
    let is = e refl in
    ap (λ x. codes "()" ++ (x ++ ((if bar then codes "|" else []) ++ w))) is.0
    ∙ ap (λ b. codes "()" ++ ((if b then codes "|" else []) ++ w)) is.1.0
    ∙ ap (λ x. codes "()" ++ x) is.1.1
chosen false true v w e n = refl
chosen false false v w e n = ap (λ x. v ++ x) (n refl)

-- an empty branch has no text
branches_as : (m : GroupInfo) (t u : Tree) (h g : Context) →
    (if is_empty t && is_empty u then codes "()" else [])
    ++ (written m t Branch h ++ ((if not (is_empty u) || is_alt t then codes "|" else []) ++ written m u Whole g))
    ≡ branches_text t u (written m t Branch h) (written m u Whole g)
branches_as m t u h g =
    chosen (is_empty t && is_empty u) (not (is_empty u) || is_alt t) (written m t Branch h) (written m u Whole g)
    (λ none.
    let both = both_true (is_empty t) (is_empty u) none in
    let first = empty_is t both.0 in (
      ap (λ x. written m x Branch h) first,
      (
        ap (λ b. not b || is_alt t) both.1 ∙ ap is_alt first,
        ap (λ x. written m x Whole g) (empty_is u both.1),
      ),
    ))
    (λ bar. ap (λ x. written m x Whole g) (empty_is u (neither (is_empty u) (is_alt t) bar)))

pub choice_writes : (a b c d e : TextOutput) (i j k : code.Context) (m : GroupInfo) (t u : Tree) →
    Added a b (if is_empty t && is_empty u then codes "()" else []) →
    WritesTree b c i j m t Branch → Added c d (if not (is_empty u) || is_alt t then codes "|" else []) →
    WritesTree d e j k m u Whole → WritesChoice a e i k m t u
choice_writes a b c d e i j k m t u p w q v =
    writes_as a e i k _ _ _ _ _ _
    (then_writes a b e i i k _ _ _ _ _ _ (λ h. refl) (text_writes a b i _ p)
    (then_writes b c e i j k _ _ _ _ _ _ (keeps_after t Branch) w
    (then_writes c d e j j k _ _ _ _ _ _ (λ h. refl) (text_writes c d j _ q) v)))
    (λ o. ap (λ l. needs_listed o t ++ l) (sym (append-nil (needs_listed o u))))
    (λ h. branches_as m t u h (after t Branch h)) (λ h. refl)

abbrev conditional_text : GroupInfo → Tree → Tree → Tree → Context → Text
conditional_text m q t u =
    in_parens (codes "?") (λ i. let j = after q Whole i in parenthesized (condition_text m q (written m q Whole i))
    ++ branches_text t u (written m t Branch j) (written m u Whole (after t Branch j)))

pub conditional_writes : (a b c d e f : TextOutput) (i j k o z : code.Context) (m : GroupInfo) (q t u : Tree)
    (p : Precedence) → Added a b (codes "(" ++ codes "?(") → Moves i j deeper →
    Writes b c j k (λ o. needs_listed o q) (λ h. condition_text m q (written m q Whole h)) (after q Whole) →
    Added c d (codes ")") → WritesChoice d e k o m t u → Added e f (codes ")") → Leaves i o z →
    WritesSettled a f i z m (conditional q t u) p
conditional_writes a b c d e f i j k o z m q t u p opens at w symbol v closes out =
    let text : Context → Text = λ h. branches_text t u (written m t Branch h) (written m u Whole (after t Branch h)) in
    let whole = parens_writes a b e f i j o z (codes "?(") _ _ _ opens at
    (then_writes b c e j k o _ _ _ _ _ _ (keeps_after q Whole) w
    (then_writes c d e k k o _ _ _ _ _ _ (λ h. refl) (text_writes c d k (codes ")") symbol) v))
    closes out in
    record {
      text = conditional_text m q t u;
      is = λ h. refl;
      writes = writes_as a f i z _ _ _ _ _ _ whole (λ o. refl)
          (λ h.
          let g = deeper h in
          ap (λ x. codes "(?(" ++ (x ++ codes ")"))
          (sym (append_assoc (condition_text m q (written m q Whole g)) (codes ")") (text (after q Whole g)))))
          (λ h.
          let groups : h.opened + group_count q + group_count t + group_count u
          ≡ h.opened + (group_count q + (group_count t + (group_count u + 0))) = omega arith in
          ap (λ n. record h { opened = n }) groups);
    }

-- ---- absent expressions

abbrev expression_text : GroupInfo → Tree → Tree → Context → Text
expression_text m t u =
    in_parens (codes "?~|") (λ i. written m t Branch i ++ (codes "|" ++ written m u Branch (after t Branch i)))

pub expression_writes : (a b c d e f : TextOutput) (i j k o z : code.Context) (m : GroupInfo) (t u : Tree)
    (p : Precedence) → Added a b (codes "(" ++ codes "?~|") → Moves i j deeper → WritesTree b c j k m t Branch →
    Added c d (codes "|") → WritesTree d e k o m u Branch → Added e f (codes ")") → Leaves i o z →
    WritesSettled a f i z m (expression t u) p
expression_writes a b c d e f i j k o z m t u p opens at w symbol v closes out =
    let whole = parens_writes a b e f i j o z (codes "?~|") _ _ _ opens at
    (then_writes b c e j k o _ _ _ _ _ _ (keeps_after t Branch) w
    (then_writes c d e k k o _ _ _ _ _ _ (λ h. refl) (text_writes c d k (codes "|") symbol) v))
    closes out in
    record {
      text = expression_text m t u;
      is = λ h. refl;
      writes = writes_as a f i z _ _ _ _ _ _ whole
          (λ o. ap (λ l. needs_listed o t ++ l) (sym (append-nil (needs_listed o u)))) (λ h. refl)
          (λ h.
          let groups : h.opened + group_count t + group_count u ≡ h.opened + (group_count t + (group_count u + 0))
          = omega arith in
          ap (λ n. record h { opened = n }) groups);
    }

-- ---- what follows the flags that are set before a tree

pub settled_group : (a b : TextOutput) (i j : code.Context) (m : GroupInfo) (t : Tree) (p : Precedence) →
    Writes a b i j (λ o. needs_listed o t)
    (λ h. in_parens (group_opening m (h.opened + 1)) (written m t Whole) (past_groups 1 h))
    (past_groups (group_count t + 1)) →
    WritesSettled a b i j m (group t) p
settled_group a b i j m t p w = record {
  text = λ h. in_parens (group_opening m (h.opened + 1)) (written m t Whole) (past_groups 1 h);
  is = λ h. refl;
  writes = w;
}

pub settled_look : (a b : TextOutput) (i j : code.Context) (m : GroupInfo) (t : Tree) (k : LookAround) (p : Precedence) →
    Writes a b i j (λ o. needs_listed o t)
    (as_atom (look_around t k) p (in_parens (look_opening k) (written m t Whole))) (past_groups (group_count t)) →
    WritesSettled a b i j m (look_around t k) p
settled_look a b i j m t k p w = record {
  text = as_atom (look_around t k) p (in_parens (look_opening k) (written m t Whole));
  is = λ h. refl;
  writes = w;
}

pub settled_repeat : (a b : TextOutput) (i j : code.Context) (m : GroupInfo) (t : Tree) (lo hi : ℕ) (greedy : Bool)
    (p : Precedence) →
    Writes a b i j (λ o. needs_listed o t)
    (in_parens_if (is_last_operand p) (codes "?:") (repeated false t lo hi greedy (written m t)) p)
    (past_groups (group_count t)) →
    WritesSettled a b i j m (repeat t lo hi greedy) p
settled_repeat a b i j m t lo hi greedy p w = record {
  text = in_parens_if (is_last_operand p) (codes "?:") (repeated false t lo hi greedy (written m t)) p;
  is = λ h. refl;
  writes = w;
}

pub settled_define : (a b : TextOutput) (i j : code.Context) (m : GroupInfo) (t : Tree) (p : Precedence) →
    Writes a b i j (λ o. needs_listed o t) (in_parens (codes "?(DEFINE)") (written m t Whole))
    (past_groups (group_count t)) →
    WritesSettled a b i j m (define_group t) p
settled_define a b i j m t p w =
    record { text = in_parens (codes "?(DEFINE)") (written m t Whole); is = λ h. refl; writes = w }

pub settled_repeater : (a b : TextOutput) (i j : code.Context) (m : GroupInfo) (t : Tree) (p : Precedence) →
    Writes a b i j (λ o. needs_listed o t)
    (in_parens (codes "?~") (λ h. repeater_text (written m t Whole h))) (past_groups (group_count t)) →
    WritesSettled a b i j m (repeater t) p
settled_repeater a b i j m t p w = record {
  text = in_parens (codes "?~") (λ h. repeater_text (written m t Whole h));
  is = λ h. refl;
  writes = w;
}

pub settled_stopper : (a b : TextOutput) (i j : code.Context) (m : GroupInfo) (t : Tree) (p : Precedence) →
    Writes a b i j (λ o. needs_listed o t)
    (in_parens (codes "?~|") (λ h. stopper_text (written m t Branch h))) (past_groups (group_count t)) →
    WritesSettled a b i j m (stopper t) p
settled_stopper a b i j m t p w = record {
  text = in_parens (codes "?~|") (λ h. stopper_text (written m t Branch h));
  is = λ h. refl;
  writes = w;
}

-- ---- rows

pub pieces_writes : (a b : TextOutput) (i j k : code.Context) (m : GroupInfo) (ts : Trees) (p : Precedence) →
    takes_pieces p ≡ true → Passes i j →
    Writes a b j k (λ o. all_listed o ts) (written_all m false ts) (after_all ts Piece) →
    WritesTree a b i k m (concat ts) p
pieces_writes a b i j k m ts p e past w =
    writes_as a b i k _ _ _ _ _ _ (past_writes a b i j k (λ o. needs_all first o ts) _ _ _ past w)
    (λ o. refl) (λ h. rw e refl) (λ h. rw e refl)

pub branches_writes : (a b : TextOutput) (i j k : code.Context) (m : GroupInfo) (ts : Trees) (p : Precedence) →
    takes_branches p ≡ true → Passes i j →
    Writes a b j k (λ o. all_listed o ts) (written_branches m ts) (after_all ts Branch) →
    WritesTree a b i k m (alt ts) p
branches_writes a b i j k m ts p e past w =
    writes_as a b i k _ _ _ _ _ _ (past_writes a b i j k (λ o. needs_all first o ts) _ _ _ past w)
    (λ o. refl) (λ h. rw e refl) (λ h. rw e refl)

pub concat_in_flag_group : (a b : TextOutput) (i j : code.Context) (m : GroupInfo) (ts : Trees) (p : Precedence) →
    takes_pieces p ≡ false →
    Writes a b i j (λ o. needs_listed o (concat ts)) (in_flag_group_unless false (concat ts) (written_all m false ts))
    (past_groups (group_count (concat ts))) →
    WritesTree a b i j m (concat ts) p
concat_in_flag_group a b i j m ts p e w =
    writes_as a b i j _ _ _ _ _ _ w (λ o. refl) (λ h. rw e refl) (λ h. rw e refl)

pub alt_in_flag_group : (a b : TextOutput) (i j : code.Context) (m : GroupInfo) (ts : Trees) (p : Precedence) →
    takes_branches p ≡ false →
    Writes a b i j (λ o. needs_listed o (alt ts)) (in_flag_group_unless false (alt ts) (written_branches m ts))
    (past_groups (group_count (alt ts))) →
    WritesTree a b i j m (alt ts) p
alt_in_flag_group a b i j m ts p e w =
    writes_as a b i j _ _ _ _ _ _ w (λ o. refl) (λ h. rw e refl) (λ h. rw e refl)
