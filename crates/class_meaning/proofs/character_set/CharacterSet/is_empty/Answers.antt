use Rattle.class_meaning.proofs.MemberLemmas.{empty_test}
use Rattle.class_meaning.proofs.character_set.CharacterSet.is_empty.Goals as goal

pub returns : goal.returns
returns c =
    let class = c.args.self.now.class in empty_test class.ranges.items _ _ class.canonical class.ranges.ok.0 c.is_empty.ensures
