use Rattle.class_meaning.proofs.MemberLemmas.{in_intersection, overlap_test}
use Rattle.class_meaning.proofs.character_set.CharacterSet.intersects.Goals as goal

pub returns : goal.returns
returns c =
    let set = c.args.self.now.class in
    let other = c.args.other.now.class.ranges.items in
    let common = c.in_ok-common.common in
    overlap_test set.ranges.items other common.ranges.items _ _ common.canonical common.ranges.ok.0 c.is_empty.ensures
    (in_intersection set.ranges.items other common.ranges.items set.canonical common.canonical c.in_ok-common.ensures)
