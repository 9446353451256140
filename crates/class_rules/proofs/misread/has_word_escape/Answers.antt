use Rattle.class_rules.proofs.misread.has_word_escape.Goals as goal

pub returns-then-is_text_at : goal.returns-then-is_text_at
returns-then-is_text_at c _ = (_, c.is_text_at.ensures c.if-is_text_at.true)
