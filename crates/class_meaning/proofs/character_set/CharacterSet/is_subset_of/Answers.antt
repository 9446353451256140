use Rattle.class_meaning.proofs.MemberLemmas.{in_difference, subset_test}
use Rattle.class_meaning.proofs.character_set.CharacterSet.is_subset_of.Goals as goal

pub returns : goal.returns
returns c =
    let set = c.args.self.now.class in
    let other = c.args.other.now.class.ranges.items in
    let others = c.in_ok-others.others in
    subset_test set.ranges.items other others.ranges.items _ _ others.canonical others.ranges.ok.0 c.is_empty.ensures
    (in_difference set.ranges.items other others.ranges.items set.canonical others.canonical c.in_ok-others.ensures)
