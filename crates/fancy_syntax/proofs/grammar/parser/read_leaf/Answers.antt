use Rattle.std.proofs.Common.{◌≡◌, [], ◌∷◌, ◌++◌, ap, sym, subst, ◌∙◌}
use Rattle.fancy_grammar.specs.Items.{items}
use Rattle.fancy_syntax.specs.Found.{FindsMore, items_in}
use Rattle.fancy_syntax.specs.View.{view, views}
use Rattle.fancy_syntax.proofs.FoundLemmas.{nothing_more}
use Rattle.fancy_syntax.proofs.ItemsReadLemmas.{append-same, items_one, none_pushed}
use Rattle.fancy_syntax.proofs.grammar.parser.read_leaf.Goals as goal

pub returns-in-Some-clause-found : goal.returns-in-Some-clause-found
returns-in-Some-clause-found g c us all =
    let ts = views c.args.trees.now.items in
    let none : items_in us ≡ [] =
    ap items_in (append-same ts (sym all ∙ c.in_ok-push.ensures ∙ ap (λ t. ts ++ t ∷ []) c.in_ok-leaf.ensures)) in
    subst (FindsMore c.args.found.now c.args.found.now) (sym none) (nothing_more c.args.found.now)

pub returns-in_default-plain_escape-clause-found : goal.returns-in_default-plain_escape-clause-found
returns-in_default-plain_escape-clause-found g c us all =
    rw (none_pushed (views c.args.trees.now.items) us all) (nothing_more c.args.found.now)

pub returns-clause-found : goal.returns-clause-found
returns-clause-found g c us all =
    let ts = views c.args.trees.now.items in
    let same : items_in us ≡ items (view c.in_ok-leaf-2.leaf) =
    ap items_in (append-same ts (sym all ∙ c.in_ok-push-2.ensures)) ∙ items_one (view c.in_ok-leaf-2.leaf) in
    subst (FindsMore c.args.found.now c.record.new.self) (sym same) c.record.ensures.found
