use Rattle.regex_hir.proofs.MeaningLemmas.{meaning-Chars, meaning-Bytes, meaning-Literal}
use Rattle.class_meaning.proofs.OneCharacterLemmas.{of_chars, of_bytes, of_text}
use Rattle.class_meaning.proofs.class_text.characters.Goals as goal

pub returns-in-Chars : goal.returns-in-Chars
returns-in-Chars c =
    rw (c.in-Chars.is, meaning-Chars c.in-Chars.class)
    (of_chars c.in_ok-new-in-Chars.field-0.class.ranges.items c.in-Chars.class.ranges.items c.in_ok-new-in-Chars.ensures)

pub returns-in-Bytes : goal.returns-in-Bytes
returns-in-Bytes c =
    let ascii = rw c.in-Bytes.is at c.requires.formed in
    rw (c.in-Bytes.is, meaning-Bytes c.in-Bytes.class)
    (of_bytes c.in_ok-new-in-Bytes.field-0.class.ranges.items c.in-Bytes.class.ranges.items c.in_ok-new-in-Bytes.ensures ascii)

pub returns-in-Some : goal.returns-in-Some
returns-in-Some c =
    let found = c.in-Some.ensures in
    rw (c.in-Literal.is, meaning-Literal c.in-Literal.bytes, ← c.deref.ensures.value, found.1)
    (of_text c.in_ok-of_char-in-Some.field-0.class.ranges.items c.in-Some.c found.0 c.in_ok-of_char-in-Some.ensures)
