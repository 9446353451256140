use Rattle.std.proofs.Common.{ℕ, Vec, chars, map, ◌++◌, ap, sym, ◌∙◌, rules, List}
use Rattle.std.specs.declared.alloc.Global.{Global}
use Rattle.patterns_config.specs.Globs.{names, put_before}
use Rattle.patterns_config.proofs.GlobLemmas.{put_nothing, slash_step}
use Rattle.patterns_config.proofs.glob.names_of.Goals as goal

abbrev items : Vec ℕ Global → List ℕ
items name = name.items

pub loop-c-init : goal.loop-c-init
loop-c-init c = record {
  text = c.utf8.text;
  names =
      sym (ap (λ (xs : List (Vec ℕ Global)). map items xs ++ put_before c.new-name.result.items (names (chars c.args.text.now)))
      c.new-found.ensures.items
      ∙ ap (λ (name : List ℕ). put_before name (names (chars c.args.text.now))) c.new-name.ensures.items
      ∙ put_nothing (chars c.args.text.now));
}

pub loop-c-preserved-in_ok-push : goal.loop-c-preserved-in_ok-push
loop-c-preserved-in_ok-push c = record {
  text = search rules;
  names = slash_step items c.loop-c.found.items c.push.new.self.items c.loop-c.name c.new-name-then-c-eq47.result.items
      (names (chars c.args.text.now)) (chars c.loop-c.rest.now) (chars c.in-Some.after.now) c.in-Some.c
      c.loop-c.invariant.names c.in-Some.ensures.value c.if-c-eq47.true c.in_ok-push.ensures.items
      c.new-name-then-c-eq47.ensures.items;
}
