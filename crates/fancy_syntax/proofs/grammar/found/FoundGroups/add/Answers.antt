use Rattle.std.proofs.Common.{◌≡◌, ◌+◌, [], ◌∷◌, refl, true, ap, sym, subst, not, option_map, chars, ◌∙◌}
use Rattle.fancy_grammar.specs.Ranks.{is_counted}
use Rattle.fancy_grammar.specs.GroupKind.{capture}
use Rattle.fancy_grammar.specs.Items.{opening}
use Rattle.fancy_syntax.specs.Found.{FindsMore, group_opening}
use Rattle.fancy_syntax.specs.Parsed.{group_kind}
use Rattle.fancy_syntax.proofs.FoundLemmas.{counted_all, counted_named, numbered_more, uncounted, undecided_more}
use Rattle.fancy_syntax.proofs.grammar.found.FoundGroups.add.Goals as goal
use Rattle.fancy_syntax.proofs.grammar.found.FoundGroups.add.Goals.{else-self-via-then-self+else-is_none, else-self-via-else-self}
use Rattle.fancy_syntax.proofs.grammar.found.FoundGroups.add.Goals.{in-Capture, in-Undecided}

pub returns-then-is_none-clause-found : goal.returns-then-is_none-clause-found
returns-then-is_none-clause-found c reach =
    let f = c.args.self.now in
    let name = option_map (λ t. chars t.now) c.match-kind.name in
    let g = record f { undecided = f.undecided + 1; unresolved = true } in
    let opened : group_opening (group_kind c.args.kind) reach ≡ opening (record { reach = reach; name = name }) ∷ [] =
    elim c.match-kind.branch [
      | in-Capture w ↦
          ap (λ k. group_opening (group_kind k) reach) w.in-Capture.is
          ∙ ap (λ n. group_opening (capture (option_map (λ t. chars t.now) n)) reach) (sym w.name-is)
      | in-Undecided w ↦
          ap (λ k. group_opening (group_kind k) reach) w.in-Undecided.is
          ∙ ap (λ n. group_opening (capture (option_map (λ t. chars t.now) n)) reach) (sym w.name-is)
    ] in
    subst (FindsMore f g) (sym opened) (undecided_more f g reach name
    (uncounted f.ignore c.match-kind.name c.if-self.true (c.is_none.ensures ∙ ap not c.if-is_none.true))
    refl refl refl refl)

pub returns-clause-found : goal.returns-clause-found
returns-clause-found c reach =
    let f = c.args.self.now in
    let name = option_map (λ t. chars t.now) c.match-kind.name in
    let g = record f { groups = c.add.new.self } in
    let opened : group_opening (group_kind c.args.kind) reach ≡ opening (record { reach = reach; name = name }) ∷ [] =
    elim c.match-kind.branch [
      | in-Capture w ↦
          ap (λ k. group_opening (group_kind k) reach) w.in-Capture.is
          ∙ ap (λ n. group_opening (capture (option_map (λ t. chars t.now) n)) reach) (sym w.name-is)
      | in-Undecided w ↦
          ap (λ k. group_opening (group_kind k) reach) w.in-Undecided.is
          ∙ ap (λ n. group_opening (capture (option_map (λ t. chars t.now) n)) reach) (sym w.name-is)
    ] in
    let numbered : is_counted f.ignore name ≡ true =
    elim c.else-self.branch [
      | else-self-via-then-self+else-is_none w ↦
          counted_named f.ignore c.match-kind.name (w.is_none.ensures ∙ ap not w.if-is_none.false)
      | else-self-via-else-self w ↦ counted_all f.ignore name w.if-self.false
    ] in
    subst (FindsMore f g) (sym opened) (numbered_more f g reach name numbered refl refl refl
    (λ before e. c.in_ok-add.ensures.numbers before reach e))
