use Rattle.pattern_facts.proofs.PrefixLemmas.{character_put}
use Rattle.pattern_facts.proofs.prefix.with_character.Goals as goal

pub returns-in_ok-push-in-Some : goal.returns-in_ok-push-in-Some
returns-in_ok-push-in-Some c unicode kind all rest t scalar is is_all before =
    character_put unicode kind all rest t c.args.c c.in-Some.before _ scalar is (rw c.in-Some.is at is_all)
    c.in_ok-push-in-Some.ensures.items (rw c.in-Some.is at before)
