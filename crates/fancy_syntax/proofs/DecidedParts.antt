-- The parts of the parser's stack and the parts of the grammar: the trees of the first are decided.
use Rattle.std.proofs.Common.{◌≡◌, ℕ, Bool, true, false, List, [], ◌∷◌, ◌++◌, length, refl, sym, ap, ◌∙◌, subst}
use Rattle.std.proofs.Common.{if◌then◌else◌}
use Rattle.std.specs.Prelude.{◌&&◌, ◌||◌, ◌==◌, not}
use Rattle.std.proofs.Common.{append-nil}
use Rattle.std.proofs.lemmas.List.{length-map, map-append}
use Rattle.fancy_lex.specs.ErrorTable.{body_missing}
use Rattle.fancy_lex.specs.Located.{Located}
use Rattle.fancy_lex.specs.Text.{Text, bytes}
use Rattle.fancy_lex.specs.declared.counts.Counts.{Counts}
use Rattle.fancy_lex.specs.Reading.{choose}
use Rattle.std.proofs.Common.{Option, Some, None, zero, suc}
use Rattle.fancy_grammar.specs.Grammar.{closed, branches_of, conditional_of}
use Rattle.fancy_grammar.specs.Join.{is_empty}
use Rattle.fancy_grammar.specs.Label as label
use Rattle.fancy_grammar.specs.Quantified.{is_swapped, is_unmoved, max_adjacent, quant, suffix}
use Rattle.fancy_grammar.specs.Spans.{counts_ahead, if_done, quantifier_end}
use Rattle.fancy_grammar.specs.State.{State, at, Outcome, done, failed, mapped}
use Rattle.fancy_grammar.specs.Tree.{Tree, leaf, over, row, list_of, expression}
use Rattle.fancy_grammar.specs.Trivia.{after_layout, inner_of_counts}
use Rattle.fancy_syntax.specs.Decided.{decided, all_decided}
use Rattle.fancy_syntax.specs.Log.{Log, layout_passed, atom_ended, atom_closed, conditional_dropped, part_dropped, left_out}
use Rattle.fancy_syntax.specs.Log.{body_split, pass, wrapped}
use Rattle.fancy_syntax.specs.Machine.{OpenPart, top, group, condition, body, first, second, part_of, IsPart, made_of}
use Rattle.fancy_syntax.specs.Machine.{ended_with, ended_part, node_of_part, lacks_body, has_body_next, is_second}
use Rattle.fancy_syntax.specs.Machine.{part_recorded, IsOpenedByBar, opened_by_bar, branches_at_bar, IsErrorOfBar, HoldsTrees}
use Rattle.fancy_syntax.specs.Recording.{body_separated, choice_recorded, added}
use Rattle.fancy_syntax.specs.Recording.{counted_recorded, quant_recorded, adjacent_recorded, quants_recorded}
use Rattle.fancy_syntax.specs.Recording.{group_recorded, quantifier_dropped}
use Rattle.fancy_syntax.specs.declared.grammar.frame.Frame.{Frame}
use Rattle.fancy_syntax.specs.declared.grammar.frame.OpenPart as declared
use Rattle.fancy_syntax.specs.declared.grammar.frame.OpenPart.TheVariants as open_part
use Rattle.fancy_syntax.proofs.DecidedLemmas.{decided_branches, decided_clear}
use Rattle.fancy_syntax.proofs.DecidedLemmas.{decided_condition, decided_conditional, decided_empty, decided_list}
use Rattle.fancy_syntax.proofs.DecidedLemmas.{decided_made, decided_quant, decided_repeatable}
use Rattle.fancy_syntax.proofs.MachineLemmas.{closed_through}

-- ---- the trees of parts

pub decided_made_of : (i : Bool) (g : declared.OpenPart) (p : OpenPart) (r : Tree) → IsPart i g p →
    made_of g (decided i r) ≡ decided i (node_of_part p r)
decided_made_of i open_part.Top top r h = refl
decided_made_of i (open_part.Group kind reach) (group k p) r (e, f, h) =
    decided_made i kind reach r h ∙ (λ j. decided i (node_of_part (group (sym e j) (sym f j)) r))
decided_made_of i open_part.Condition condition r h = refl
decided_made_of i (open_part.Body c left) (body d m) r (e, f) =
    (λ j. conditional_of (e j) (decided_branches i r j).0 (decided_branches i r j).1)
    ∙ decided_conditional i d (branches_of r).0 (branches_of r).1
decided_made_of i open_part.First first r h = decided_clear i r
decided_made_of i (open_part.Second a) (second b) r h = ap (λ t. expression t (decided i r)) h
decided_made_of i _ _ r h = absurd h

pub decided_lacks : (i : Bool) (g : declared.OpenPart) (p : OpenPart) (s : State) → IsPart i g p →
    lacks_body (part_of g) s ≡ lacks_body p s
decided_lacks i open_part.Top top s h = refl
decided_lacks i (open_part.Group kind reach) (group k p) s h = refl
decided_lacks i open_part.Condition condition s h = refl
decided_lacks i (open_part.Body c left) (body d m) s (e, f) =
    (λ j. lacks_body (body (e j) (f j)) s)
    ∙ ap (λ b. bytes s.rest == m && not b) (decided_condition i d)
decided_lacks i open_part.First first s h = refl
decided_lacks i (open_part.Second a) (second b) s h = refl
decided_lacks i _ _ s h = absurd h

pub decided_ended : (i : Bool) (g : declared.OpenPart) (p : OpenPart) (r : Tree) (s : State) → IsPart i g p →
    ended_with g (decided i r) s ≡ mapped (decided i) (ended_part p r s)
decided_ended i g p r s h =
    (λ j. if decided_lacks i g p s h j then failed (body_missing s.rest) else closed (decided_made_of i g p r h j) s)
    ∙ by_test (lacks_body p s)
  where
    by_test : (b : Bool) → (if b then failed (body_missing s.rest) else closed (decided i (node_of_part p r)) s)
        ≡ mapped (decided i) (if b then failed (body_missing s.rest) else closed (node_of_part p r) s)
    by_test true = refl
    by_test false = sym (closed_through (decided i) (node_of_part p r) s)

-- what the code's part ends with is decided
pub ended_done : (i : Bool) (g : declared.OpenPart) (p : OpenPart) (r : Tree) (s : State) {b : Tree} {t : State} → IsPart i g p →
    ended_with g (decided i r) s ≡ done b t → (a : Tree) × (b ≡ decided i a) × (ended_part p r s ≡ done a t)
ended_done i g p r s {b} {t} h e = by_outcome (ended_part p r s) (sym (decided_ended i g p r s h) ∙ e)
  where
    by_outcome : (o : Outcome Tree) → mapped (decided i) o ≡ done b t →
        (a : Tree) × (b ≡ decided i a) × (o ≡ done a t)
    by_outcome (done a u) k = (a, cc, cc)
    by_outcome (failed f) k = absurd cc

pub ended_fails : (i : Bool) (g : declared.OpenPart) (p : OpenPart) (r : Tree) (s : State) (f : Located) → IsPart i g p →
    ended_with g (decided i r) s ≡ failed f → ended_part p r s ≡ failed f
ended_fails i g p r s f h e = by_outcome (ended_part p r s) (sym (decided_ended i g p r s h) ∙ e)
  where
    by_outcome : (o : Outcome Tree) → mapped (decided i) o ≡ failed f → o ≡ failed f
    by_outcome (done a u) k = absurd cc
    by_outcome (failed f) k = cc

pub same_body_next : (i : Bool) (g : declared.OpenPart) (p : OpenPart) → IsPart i g p →
    has_body_next (part_of g) ≡ has_body_next p
same_body_next i open_part.Top top h = refl
same_body_next i (open_part.Group kind reach) (group k p) h = refl
same_body_next i open_part.Condition condition h = refl
same_body_next i (open_part.Body c left) (body d m) h = refl
same_body_next i open_part.First first h = refl
same_body_next i (open_part.Second a) (second b) h = refl
same_body_next i _ _ h = absurd h

-- ---- at a bar

pub same_second : (i : Bool) (g : declared.OpenPart) (p : OpenPart) → IsPart i g p → is_second (part_of g) ≡ is_second p
same_second i open_part.Top top h = refl
same_second i (open_part.Group kind reach) (group k p) h = refl
same_second i open_part.Condition condition h = refl
same_second i (open_part.Body c left) (body d m) h = refl
same_second i open_part.First first h = refl
same_second i (open_part.Second a) (second b) h = refl
same_second i _ _ h = absurd h

pub same_error_of_bar : (i : Bool) (g : declared.OpenPart) (p : OpenPart) (t : Text) (o : Outcome Tree) → IsPart i g p →
    IsErrorOfBar (part_of g) t o → IsErrorOfBar p t o
same_error_of_bar i open_part.Top top t o h e = e
same_error_of_bar i (open_part.Group kind reach) (group k p) t o h e = e
same_error_of_bar i open_part.Condition condition t o h e = e
same_error_of_bar i (open_part.Body c left) (body d m) t o h e = e
same_error_of_bar i open_part.First first t o h e = e
same_error_of_bar i (open_part.Second a) (second b) t o h e = e
same_error_of_bar i _ _ t o h e = absurd h

-- the part after the bar
pub opened_part : (i : Bool) (f g : declared.OpenPart) (p : OpenPart) (a : Tree) → IsPart i f p →
    IsOpenedByBar f g (decided i a) → IsPart i g (opened_by_bar p a)
opened_part i open_part.Top g top a h e = subst (λ x. IsPart i x top) (sym e) tt
opened_part i (open_part.Group kind reach) g (group k p) a h e = subst (λ x. IsPart i x (group k p)) (sym e) h
opened_part i open_part.Condition g condition a h e = subst (λ x. IsPart i x condition) (sym e) tt
opened_part i (open_part.Body c left) g (body d m) a h e = subst (λ x. IsPart i x (body d m)) (sym e) h
opened_part i open_part.First g first a h e = is_second_part g e
  where
    is_second_part : (g : declared.OpenPart) → part_of g ≡ second (decided i a) → IsPart i g (second a)
    is_second_part (open_part.Second b) e = cc
    is_second_part open_part.Top e = absurd cc
    is_second_part (open_part.Group kind reach) e = absurd cc
    is_second_part open_part.Condition e = absurd cc
    is_second_part (open_part.Body c left) e = absurd cc
    is_second_part open_part.First e = absurd cc
opened_part i (open_part.Second b) g (second c) a h e = subst (λ x. IsPart i x (second c)) (sym e) h
opened_part i _ g _ a h e = absurd h

pub same_branches : (i : Bool) (g : declared.OpenPart) (p : OpenPart) (bs : List Tree) (a : Tree) → IsPart i g p →
    branches_at_bar (part_of g) (all_decided i bs) (decided i a) ≡ all_decided i (branches_at_bar p bs a)
same_branches i open_part.Top top bs a h = sym (map-append (decided i) bs (a ∷ []))
same_branches i (open_part.Group kind reach) (group k p) bs a h = sym (map-append (decided i) bs (a ∷ []))
same_branches i open_part.Condition condition bs a h = sym (map-append (decided i) bs (a ∷ []))
same_branches i (open_part.Body c left) (body d m) bs a h = sym (map-append (decided i) bs (a ∷ []))
same_branches i open_part.First first bs a h = refl
same_branches i (open_part.Second b) (second c) bs a h = sym (map-append (decided i) bs (a ∷ []))
same_branches i _ _ bs a h = absurd h

-- ---- which trees a frame holds

pub holds_decided : (i : Bool) (f : Frame) (trees below branches pieces : List Tree) →
    HoldsTrees f trees below branches pieces →
    HoldsTrees f (all_decided i trees) (all_decided i below) (all_decided i branches) (all_decided i pieces)
holds_decided i f trees below branches pieces (e, b, p) = (
  ap (all_decided i) e ∙ map-append (decided i) (below ++ branches) pieces
      ∙ ap (λ l. l ++ all_decided i pieces) (map-append (decided i) below branches),
  b ∙ sym (length-map below (decided i)),
  p ∙ sym (length-map (below ++ branches) (decided i)) ∙ ap length (map-append (decided i) below branches),
)

-- the trees that the code's frame holds, of which all but the heights are decided
pub holds_raw : (i : Bool) (f : Frame) (all below branches : List Tree) →
    HoldsTrees f all (all_decided i below) (all_decided i branches) [] →
    (all ≡ all_decided i (below ++ branches)) × HoldsTrees f (below ++ branches) below branches []
holds_raw i f all below branches (e, b, p) = (
  e ∙ append-nil (all_decided i below ++ all_decided i branches) ∙ sym (map-append (decided i) below branches),
  (
    sym (append-nil (below ++ branches)),
    b ∙ length-map below (decided i),
    p ∙ ap length (sym (map-append (decided i) below branches)) ∙ length-map (below ++ branches) (decided i),
  ),
)

-- ---- what is recorded

pub added_decided : (i : Bool) (r : Tree) (l : Log) → added (decided i r) l ≡ added r l
added_decided i r l = ap (λ b. if b then left_out l else l) (decided_empty i r)

pub choice_decided : (i : Bool) (bs : List Tree) (end : ℕ) (l : Log) →
    choice_recorded (all_decided i bs) end l ≡ choice_recorded bs end l
choice_decided i [] end l = refl
choice_decided i (a ∷ []) end l = refl
choice_decided i (a ∷ b ∷ bs) end l = refl

separated_decided : (i : Bool) (r : Tree) (end : ℕ) (l : Log) → body_separated (decided i r) end l ≡ body_separated r end l
separated_decided i (row label.alt ts) end l =
    ap (λ n. body_split n l) (ap length (decided_list i ts) ∙ length-map (list_of ts) (decided i))
separated_decided i (leaf l) end k = refl
separated_decided i (over w t) end l = refl
separated_decided i (row r ts) end l = refl

pub part_decided : (i : Bool) (g : declared.OpenPart) (p : OpenPart) (r : Tree) (paren end : ℕ) (l : Log) → IsPart i g p →
    part_recorded (part_of g) (decided i r) paren end l ≡ part_recorded p r paren end l
part_decided i open_part.Top top r paren end l h = refl
part_decided i (open_part.Group kind reach) (group k p) r paren end l (e, f, h) =
    ap (λ x. group_recorded x end l) (sym e)
part_decided i open_part.Condition condition r paren end l h = refl
part_decided i (open_part.Body c left) (body d m) r paren end l h =
    let b = branches_of r in
    (λ j. if is_empty (decided_branches i r j).0 && is_empty (decided_branches i r j).1
    then atom_ended (conditional_dropped end (separated_decided i r paren l j))
    else atom_closed end false (separated_decided i r paren l j))
    ∙ (λ j. if decided_empty i b.0 j && decided_empty i b.1 j
    then atom_ended (conditional_dropped end (body_separated r paren l))
    else atom_closed end false (body_separated r paren l))
part_decided i open_part.First first r paren end l h =
    ap (λ b. atom_closed end false (if b then part_dropped l else l)) (decided_empty i r)
part_decided i (open_part.Second a) (second b) r paren end l h = refl
part_decided i _ _ r paren end l h = absurd h

quant_decided : (i : Bool) (a : Tree) (s : State) (l : Log) → quant_recorded (decided i a) s l ≡ quant_recorded a s l
quant_decided i a s l =
    by_counts (counts_ahead s)
  where
    m : Log
    m = layout_passed s l

    by_counts : (o : Option (Counts × Text)) →
        choose o (counted_recorded (after_layout s) (decided i a) s m) m
        ≡ choose o (counted_recorded (after_layout s) a s m) m
    by_counts None = refl
    by_counts (Some (c, t)) =
        let u = at s t in
        let k = layout_passed u (pass (inner_of_counts c (after_layout s) t) m) in
        ap (λ b. if b
        then if_done (suffix u c) (λ o v. wrapped (quantifier_end t o v) (is_swapped s.flags c || o.possessive) k) k
        else quantifier_dropped (after_layout s) u c m) (decided_repeatable i s.flags a)

-- an outcome of decided trees
done_decided : (i : Bool) (q : Outcome Tree) (f g : Tree → State → Log) (m : Log) →
    ((b : Tree) (t : State) → f (decided i b) t ≡ g b t) → if_done (mapped (decided i) q) f m ≡ if_done q g m
done_decided i (done b t) f g m h = h b t
done_decided i (failed e) f g m h = refl

adjacent_decided : (i : Bool) (k : ℕ) (a : Tree) (s : State) (l : Log) →
    adjacent_recorded k (decided i a) s l ≡ adjacent_recorded k a s l
adjacent_decided i zero a s l = quant_decided i a s l
adjacent_decided i (suc k) a s l =
    let m = quant_recorded a s l in
    let more : Tree → State → Log = λ b t. if is_unmoved s t then m else adjacent_recorded k b t m in
    (λ j. if_done (decided_quant i (bytes s.rest) a s j)
    (λ b t. if is_unmoved s t then quant_decided i a s l j else adjacent_recorded k b t (quant_decided i a s l j))
    (quant_decided i a s l j))
    ∙ done_decided i (quant (bytes s.rest) a s) more more m
    (λ b t. ap (λ x. if is_unmoved s t then m else x) (adjacent_decided i k b t m))

pub quants_decided : (i : Bool) (left : ℕ) (a : Tree) (s : State) (l : Log) →
    quants_recorded left (done (decided i a) s) l ≡ quants_recorded left (done a s) l
quants_decided i left a s l =
    let m = quant_recorded a s l in
    let more : Tree → State → Log =
    λ b t. if t.flags.oniguruma_mode then adjacent_recorded max_adjacent b t m else m in
    (λ j. if_done (decided_quant i left a s j)
    (λ b t. if t.flags.oniguruma_mode then adjacent_recorded max_adjacent b t (quant_decided i a s l j)
    else quant_decided i a s l j)
    (quant_decided i a s l j))
    ∙ done_decided i (quant left a s) more more m
    (λ b t. ap (λ x. if t.flags.oniguruma_mode then x else m) (adjacent_decided i max_adjacent b t m))
