-- Texts in the spelling of a pattern.
use Rattle.std.proofs.Common.{◌≡◌, ◌≢◌, ℕ, List, [], ◌∷◌, ◌++◌, inl, inr, chars, refl, ap, ap₂, sym, subst, ◌∙◌, append_assoc, append-nil}
use Rattle.std.proofs.Common.{IsUtf8, Bool, true, false}
use Rattle.std.proofs.lemmas.Bool.{false≢true}
use Rattle.std.proofs.lemmas.Slice.Eq.{bytes_eq-Decides}
use Rattle.std.specs.Bool.{Decides}
use Rattle.std.specs.List.{flat_map}
use Rattle.std.specs.Str.{bytes_eq}
use Rattle.fancy_lex.specs.declared.flags.Flags.{Flags}
use Rattle.fancy_grammar.specs.GroupInfo.{GroupInfo}
use Rattle.fancy_grammar.specs.Label as label
use Rattle.fancy_grammar.specs.ParseResult.{HasTree, IsTreeOf}
use Rattle.fancy_grammar.specs.ReadAs.{IsReadAs, unpositioned, unpositioned_all}
use Rattle.fancy_grammar.specs.Spans.{Span, AreSpansOf}
use Rattle.fancy_grammar.specs.Tree.{Tree, leaf, over, row, Trees, no_trees, more_trees, list_of, children}
use Rattle.fancy_grammar.proofs.ParsedSpans.{only_spans}
use Rattle.fancy_syntax.specs.View.{view, views}
use Rattle.fancy_syntax.specs.declared.expr.Expr.{Expr}
use Rattle.pattern_format.specs.Spelled.{all_kept, all_kept_of, kept_of, respelled, HasOwnSpelling, IsRespelled}
use Rattle.pattern_format.specs.Spelled.{IsSpelledAs, StaysSpelled}
use Rattle.pattern_format.specs.declared.spelled.Kept.{Kept}

-- ---- what is kept of each node

kept_listed : (ts : Trees) → all_kept_of ts ≡ flat_map all_kept (list_of ts)
kept_listed no_trees = refl
kept_listed (more_trees t ts) = ap (λ l. all_kept t ++ l) (kept_listed ts)

-- what is kept of a node is followed by what is kept of its children
kept_node : (t : Tree) → all_kept t ≡ kept_of t ∷ flat_map all_kept (children t)
kept_node (leaf l) = refl
kept_node (over (label.ast_group name position) t) = refl
kept_node (over w t) = ap (λ l. kept_of (over w t) ∷ l) (sym (append-nil (all_kept t)))
kept_node (row r ts) = ap (λ l. kept_of (row r ts) ∷ l) (kept_listed ts)

-- what was added so far for a node, after what was there before, with some children left
pub record Keeping (t : Tree) (old now : List Kept) (left : List Expr) : Type 0 where
  pub whole : now ++ flat_map all_kept (views left) ≡ old ++ all_kept t

module _ (t : Tree) (old : List Kept) where
  pub keeping_starts : (now : List Kept) (left : List Expr) → now ≡ old ++ kept_of t ∷ [] → views left ≡ children t →
      Keeping t old now left
  keeping_starts now left p h = record {
    whole = ap (λ l. l ++ flat_map all_kept (views left)) p
        ∙ append_assoc old (kept_of t ∷ []) (flat_map all_kept (views left))
        ∙ ap (λ ts. old ++ kept_of t ∷ flat_map all_kept ts) h ∙ ap (λ l. old ++ l) (sym (kept_node t));
  }

  pub keeping_next : (now more_now : List Kept) (c : Expr) (left more : List Expr) → Keeping t old now left →
      left ≡ c ∷ more → more_now ≡ now ++ all_kept (view c) → Keeping t old more_now more
  keeping_next now more_now c left more s h e = record {
    whole = ap (λ l. l ++ flat_map all_kept (views more)) e
        ∙ append_assoc now (all_kept (view c)) (flat_map all_kept (views more))
        ∙ ap (λ es. now ++ flat_map all_kept (views es)) (sym h) ∙ s.whole;
  }

  pub keeping_ends : (now : List Kept) (left : List Expr) → Keeping t old now left → left ≡ [] → now ≡ old ++ all_kept t
  keeping_ends now left s h =
      sym (append-nil now) ∙ ap (λ es. now ++ flat_map all_kept (views es)) (sym h) ∙ s.whole

-- what is kept does not depend on positions
mutual
  kept_unpositioned : (t : Tree) → all_kept (unpositioned t) ≡ all_kept t
  kept_unpositioned (leaf (label.ast_node r position)) = refl
  kept_unpositioned (leaf l) = refl
  kept_unpositioned (over (label.ast_group name position) t) = refl
  kept_unpositioned (over w t) = ap (λ l. kept_of (over w t) ∷ l) (kept_unpositioned t)
  kept_unpositioned (row r ts) = ap (λ l. kept_of (row r ts) ∷ l) (all_kept_unpositioned ts)

  all_kept_unpositioned : (ts : Trees) → all_kept_of (unpositioned_all ts) ≡ all_kept_of ts
  all_kept_unpositioned no_trees = refl
  all_kept_unpositioned (more_trees t ts) = ap₂ (λ a b. a ++ b) (kept_unpositioned t) (all_kept_unpositioned ts)

same_kept : (t u : Tree) → unpositioned u ≡ unpositioned t → all_kept t ≡ all_kept u
same_kept t u e = sym (kept_unpositioned t) ∙ ap all_kept (sym e) ∙ kept_unpositioned u

-- ---- the text with the spellings

-- if the pattern is the text, it stays
pub text_stays : (f : Flags) (pattern : List ℕ) (t : Tree) (m : GroupInfo) (qs : List Span) (text : List ℕ) → pattern ≡ text →
    IsSpelledAs f pattern t m qs text text
text_stays f pattern t m qs text same = inr (refl, λ u r. r.unlike same)

-- and a text stays in its own spelling
pub text_stays_spelled : (f : Flags) (t : Tree) (m : GroupInfo) (text : List ℕ) → StaysSpelled f t m text text
text_stays_spelled f t m text u rs same of = text_stays f text u m rs text refl

-- a text without a tree stays
pub no_tree_stays : (f : Flags) (pattern : List ℕ) (t : Tree) (m : GroupInfo) (qs : List Span) (text : List ℕ) →
    ((u : Tree) (k : GroupInfo) → IsTreeOf f (chars text) u k → ⊥) → IsSpelledAs f pattern t m qs text text
no_tree_stays f pattern t m qs text none = inr (refl, λ u r. none r.tree.0 r.tree.1 r.tree.2)

-- the nodes of the text have these spans and no others, and with the spellings it is these bytes
module _ (f : Flags) (pattern : List ℕ) (t : Tree) (m : GroupInfo) (qs : List Span) (text : List ℕ) (here : List Span)
    (bytes : List ℕ) (only : (k : List Span) → AreSpansOf f (chars text) k → k ≡ here)
    (is : bytes ≡ respelled text pattern (all_kept t) here qs 0) where
  same_bytes : (u : List ℕ) → IsRespelled f pattern t m qs text u → u ≡ bytes
  same_bytes u r = r.is ∙ ap (λ l. respelled text pattern (all_kept t) l qs 0) (only r.here r.spans) ∙ sym is

  -- if they are the text, it stays
  pub unchanged_stays : bytes ≡ text → IsSpelledAs f pattern t m qs text text
  unchanged_stays e = inr (refl, λ u r. r.other (same_bytes u r ∙ e))

  not_settled : (IsUtf8 bytes → IsReadAs f (chars bytes) t m × HasOwnSpelling f text (all_kept t) here bytes → ⊥) →
      (u : List ℕ) → IsRespelled f pattern t m qs text u → ⊥
  not_settled unsettled u r =
      let same = same_bytes u r in
      let own = subst (λ l. HasOwnSpelling f text (all_kept t) l u) (only r.here r.spans) r.own in
      unsettled (subst IsUtf8 same r.utf8) (
        subst (λ w. IsReadAs f (chars w) t m) same r.reads,
        subst (HasOwnSpelling f text (all_kept t) here) same own,
      )

  -- if they are not read as the tree, or with their spellings the text is not they, the text stays
  pub unsettled_stays : (IsUtf8 bytes → IsReadAs f (chars bytes) t m × HasOwnSpelling f text (all_kept t) here bytes → ⊥) →
      IsSpelledAs f pattern t m qs text text
  unsettled_stays unsettled = inr (refl, not_settled unsettled)

  -- and otherwise they are the result
  module _ (unlike : pattern ≢ text) (other : bytes ≢ text) (tree : HasTree f (chars text)) (spans : AreSpansOf f (chars text) here)
      (utf8 : IsUtf8 bytes) (reads : IsReadAs f (chars bytes) t m) (own : HasOwnSpelling f text (all_kept t) here bytes) where
    pub is_respelled : IsSpelledAs f pattern t m qs text bytes
    is_respelled = inl (record {
      unlike = unlike;
      other = other;
      tree = tree;
      here = here;
      spans = spans;
      is = is;
      utf8 = utf8;
      reads = reads;
      own = own;
    })

    pub respelled_stays : StaysSpelled f t m text bytes
    respelled_stays u rs same of =
        let kept = same_kept t u same in
        inl (record {
          unlike = other;
          other = other;
          tree = tree;
          here = here;
          spans = spans;
          is = own.2 ∙ ap (λ l. respelled text bytes (all_kept t) here l 0) (only_spans rs own.0 of own.1)
              ∙ ap (λ k. respelled text bytes k here rs 0) kept;
          utf8 = utf8;
          reads = (reads.0, reads.1, reads.2 ∙ sym same);
          own = subst (λ k. HasOwnSpelling f text k here bytes) kept own;
        })

-- the nodes of w have these spans and no others, and with its spellings the text is these bytes: that they are w is decided
pub own_decides : (f : Flags) (text : List ℕ) (ks : List Kept) (ps rs : List Span) (w bytes : List ℕ) → AreSpansOf f (chars w) rs →
    ((k : List Span) → AreSpansOf f (chars w) k → k ≡ rs) → bytes ≡ respelled text w ks ps rs 0 →
    Decides (bytes_eq bytes w) (HasOwnSpelling f text ks ps w)
own_decides f text ks ps rs w bytes found only is = (
  λ e. (rs, found, sym ((bytes_eq-Decides bytes w).0 e) ∙ is),
  λ own. (bytes_eq-Decides bytes w).1
      (is ∙ ap (λ l. respelled text w ks ps l 0) (sym (only own.0 own.1)) ∙ sym own.2),
)

-- the bytes, where what they are made of is known by other names
pub respelled_of : (bytes a b c d : List ℕ) (k l : List Kept) (ps us qs vs : List Span) → a ≡ c → b ≡ d → k ≡ l → ps ≡ us → qs ≡ vs →
    bytes ≡ respelled a b k ps qs 0 → bytes ≡ respelled c d l us vs 0
respelled_of bytes a b c d k l ps us qs vs text pattern kept here there e =
    e ∙ ap (λ x. respelled x b k ps qs 0) text ∙ ap (λ x. respelled c x k ps qs 0) pattern ∙ ap (λ x. respelled c d x ps qs 0) kept
    ∙ ap (λ x. respelled c d l x qs 0) here ∙ ap (λ x. respelled c d l us x 0) there

-- the same of what has its own spelling
pub own_of : (f : Flags) (a c : List ℕ) (k l : List Kept) (ps us : List Span) (w : List ℕ) → a ≡ c → k ≡ l → ps ≡ us →
    HasOwnSpelling f a k ps w → HasOwnSpelling f c l us w
own_of f a c k l ps us w text kept here own =
    subst (λ x. HasOwnSpelling f x l us w) text
    (subst (λ x. HasOwnSpelling f a x us w) kept (subst (λ x. HasOwnSpelling f a k x w) here own))

-- ---- two texts that were compared

module _ (r : Bool) (a b c d : List ℕ) (is : r ≡ bytes_eq a b) (first : a ≡ c) (second : b ≡ d) where
  pub equal_texts : r ≡ true → c ≡ d
  equal_texts held = sym first ∙ (bytes_eq-Decides a b).0 (sym is ∙ held) ∙ second

  pub unequal_texts : r ≡ false → c ≢ d
  unequal_texts fails e = false≢true (sym fails ∙ is ∙ (bytes_eq-Decides a b).1 (first ∙ e ∙ sym second))
