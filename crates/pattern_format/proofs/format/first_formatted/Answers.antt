use Rattle.std.proofs.Common.{◌≡◌, ℕ, List, Bor, ap, map, chars, string_bytes, subst, sym, rules, ◌∙◌}
use Rattle.std.proofs.lemmas.Option.{IfSome_then}
use Rattle.fancy_lex.specs.Flags.{flags_of}
use Rattle.fancy_grammar.specs.ParseResult.{IsTreeOf}
use Rattle.fancy_syntax.specs.InfoViews.{info_of}
use Rattle.fancy_syntax.specs.TriviaViews.{trivia_of, trivium_of}
use Rattle.fancy_syntax.specs.View.{view}
use Rattle.pattern_format.specs.Formatted.{comments}
use Rattle.pattern_format.proofs.ReadBackLemmas.{formatted_if, unchanged}
use Rattle.pattern_format.proofs.format.first_formatted.Goals as goal

pub returns-then-eq-clause-formatted : goal.returns-then-eq-clause-formatted
returns-then-eq-clause-formatted c =
    let parsed = c.in_ok-parsed.parsed in
    let same : string_bytes c.in-Some-2.kept.text ≡ c.args.pattern.now = search rules in
    unchanged c.args.style (flags_of c.args.flags) c.args.pattern.now (string_bytes c.in-Some-2.kept.text) (view parsed.tree.expr)
    (info_of parsed.tree) (trivia_of parsed.trivia) same c.in_ok-parsed.ensures.tree.found c.in_ok-parsed.ensures.trivia.found

pub returns-in-Some-2-clause-formatted : goal.returns-in-Some-2-clause-formatted
returns-in-Some-2-clause-formatted c =
    let f = flags_of c.args.flags in
    let pattern = c.args.pattern.now in
    let parsed = c.in_ok-parsed.parsed in
    let tree = c.tree_of-tree.result in
    let texts = ap (map {A = Bor (List ℕ)} {B = List ℕ} (λ t. t.now)) c.deref-in-Some-2.ensures.value
    ∙ (rw c.in-Some.is at c.in_ok-comments.ensures)
    ∙ ap (λ l. comments c.args.style pattern (map trivium_of l)) c.deref.ensures.value in
    formatted_if (λ r. string_bytes r.text) c.in_ok-if_read_back.field-0 c.args.style f pattern (view tree.expr) (info_of tree)
    (map {A = Bor (List ℕ)} {B = List ℕ} (λ t. t.now) c.deref-in-Some-2.result.now) (trivia_of parsed.trivia)
    (subst (λ x. IsTreeOf f (chars pattern) (view x.expr) (info_of x)) (sym c.tree_of-tree.ensures)
    c.in_ok-parsed.ensures.tree.found)
    c.in_ok-parsed.ensures.trivia.found texts c.in_ok-if_read_back.ensures

pub returns-then-eq-2-clause-formatted : goal.returns-then-eq-2-clause-formatted
returns-then-eq-2-clause-formatted c =
    let parsed = c.in_ok-parsed.parsed in
    let same : string_bytes c.in-Some-3.laid_out.text ≡ c.args.pattern.now = search rules in
    unchanged c.args.style (flags_of c.args.flags) c.args.pattern.now (string_bytes c.in-Some-3.laid_out.text) (view parsed.tree.expr)
    (info_of parsed.tree) (trivia_of parsed.trivia) same c.in_ok-parsed.ensures.tree.found c.in_ok-parsed.ensures.trivia.found

pub returns-clause-formatted : goal.returns-clause-formatted
returns-clause-formatted c =
    let f = flags_of c.args.flags in
    let pattern = c.args.pattern.now in
    let parsed = c.in_ok-parsed.parsed in
    let tree = c.in_ok-tree.tree in
    let texts = ap (map {A = Bor (List ℕ)} {B = List ℕ} (λ t. t.now)) c.deref-2.ensures.value
    ∙ (rw c.in-Some.is at c.in_ok-comments.ensures)
    ∙ ap (λ l. comments c.args.style pattern (map trivium_of l)) c.deref.ensures.value in
    let small = IfSome_then c.small_tree-tree.result {P = λ x. x ≡ parsed.tree}
    {Q = λ x. IsTreeOf f (chars pattern) (view x.expr) (info_of x)} c.small_tree-tree.ensures
    (λ x e. subst (λ y. IsTreeOf f (chars pattern) (view y.expr) (info_of y)) (sym e) c.in_ok-parsed.ensures.tree.found) in
    formatted_if (λ r. string_bytes r.text) c.in_ok-if_read_back-2.field-0 c.args.style f pattern (view tree.expr) (info_of tree)
    (map {A = Bor (List ℕ)} {B = List ℕ} (λ t. t.now) c.deref-2.result.now) (trivia_of parsed.trivia)
    (c.in_ok-tree.ensures.tree small) c.in_ok-parsed.ensures.trivia.found texts c.in_ok-if_read_back-2.ensures
