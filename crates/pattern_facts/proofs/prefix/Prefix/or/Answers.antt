use Rattle.std.proofs.Common.{◌≡◌, nat_eq, take, sym, ap, ◌∙◌}
use Rattle.std.specs.List.{common_prefix_len}
use Rattle.pattern_facts.proofs.PrefixLemmas.{same_texts}
use Rattle.pattern_facts.proofs.prefix.Prefix.or.Goals as goal

pub returns : goal.returns
returns c =
    let first = c.args.self.characters.items in
    let second = c.args.next.characters.items in
    let len : c.shared_len-shared.result ≡ common_prefix_len nat_eq first second = c.shared_len-shared.ensures
    ∙ ap (λ w. common_prefix_len nat_eq w c.deref-2.result.now) c.deref.ensures.value
    ∙ ap (λ w. common_prefix_len nat_eq first w) c.deref-2.ensures.value in
    record {
      characters = c.truncate.ensures.items ∙ ap (λ n. take n first) len;
      whole = λ yes.
          let all = c.are_whole-is_whole.ensures yes in
          (all.0, all.1, same_texts first second (sym len ∙ all.2) (sym len ∙ all.3));
    }
