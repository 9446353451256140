-- The group information of a tree, as a caller in C gets it.
use Rattle.std.specs.Prelude.{◌≡◌, ℕ, ◌+◌, ◌*◌, ◌≤◌, true, false, List, [], ◌∷◌, ◌++◌, get_or, length, map}
use Rattle.std.specs.Prelude.{encode_utf8_all}
use Rattle.std.specs.Option.{unwrap_or, is_some}
use Rattle.fancy_lex.specs.Bits.{has_bit}
use Rattle.fancy_lex.specs.Flags.{flags_of}
use Rattle.fancy_lex.specs.Text.{Text}
use Rattle.fancy_lex.specs.declared.flags.Flags.{Flags}
use Rattle.fancy_syntax.specs.Capacity.{in_word}
use Rattle.fancy_grammar.specs.GroupInfo.{GroupInfo}
use Rattle.fancy_grammar.specs.Promises.{AreParsedSpans}
use Rattle.fancy_grammar.specs.Tree.{Tree}
use Rattle.fancy_syntax.specs.SpanViews.{span_of}
use Rattle.fancy_syntax.specs.declared.span.Span.{Span}
use Rattle.fancy_c.specs.CallResult.{IsTreeOfBytes}
use Rattle.fancy_c.specs.Buffer.{Fills}
use Rattle.fancy_c.specs.Node.{listed, rows, span_at, texts, SpanAt}
use Rattle.fancy_c.specs.Numbered.{numbered}
use Rattle.fancy_c.specs.declared.info_rows.Name.{Name}
use Rattle.fancy_c.specs.declared.node.Node.{Node}
use Rattle.fancy_c.specs.declared.info_rows.TreeInfo.{TreeInfo}
use Rattle.fancy_c.specs.declared.call_flags.TheConstants.{FLAG_WITHOUT_SPANS}

-- the rows of a name that begins at the byte o and has n bytes: one for each of its numbers
abbrev pub rows_of_name : ℕ → ℕ → List ℕ → List Name
rows_of_name o n ks = map (λ k. record { text = o; text_size = n; group = k }) ks

-- the row with an index; zeros past the end of the rows
abbrev pub name_at : List Name → ℕ → Name
name_at names i = get_or names i (record { text = 0; text_size = 0; group = 0 })

-- the names, one after the other
abbrev pub name_texts : List (Text × List ℕ) → List ℕ
name_texts [] = []
name_texts ((w, ks) ∷ l) = encode_utf8_all w ++ name_texts l

-- their rows, from the byte o on
abbrev pub name_rows : ℕ → List (Text × List ℕ) → List Name
name_rows o [] = []
name_rows o ((w, ks) ∷ l) =
    rows_of_name o (length (encode_utf8_all w)) ks ++ name_rows (o + length (encode_utf8_all w)) l

-- the bytes of a tree's texts, and after them the names of its groups
abbrev pub all_texts : Tree → GroupInfo → List ℕ
all_texts t m = texts (listed t) ++ name_texts m.named_groups

-- the sizes of a tree and its group information; a count that does not fit in a word is the greatest word
abbrev pub summary : Tree → GroupInfo → TreeInfo
summary t m = record {
  node_count = in_word (length (listed t));
  texts_size = in_word (length (all_texts t m));
  name_count = in_word (length (name_rows 0 m.named_groups));
  backref_count = length m.backrefs;
  total_groups = m.total_groups;
  out_of_range_backref = unwrap_or m.out_of_range_backref 0;
  has_out_of_range_backref = is_some m.out_of_range_backref;
  numeric_capture_group_references = m.numeric_capture_group_references;
  contains_subroutines = m.contains_subroutines;
  self_recursive = m.self_recursive;
  numbered_groups_ignored = m.numbered_groups_ignored;
}

-- the buffers hold a tree, with these spans, and its group information: the rows of its nodes, each group with its
-- number, the texts, the rows of the names, and the back references
pub record AreWritten (t : Tree) (m : GroupInfo) (spans : SpanAt) (nodes nodes' : List Node) (bytes bytes' : List ℕ)
    (names names' : List Name) (backrefs backrefs' : List ℕ) : Type 0 where
  pub nodes_are : Fills nodes nodes' (numbered 0 (rows spans 0 0 (listed t)))
  pub texts_are : Fills bytes bytes' (all_texts t m)
  pub names_are : Fills names names' (name_rows (length (texts (listed t))) m.named_groups)
  pub backrefs_are : Fills backrefs backrefs' m.backrefs

-- the spans are those of the tree of the bytes, and each is within the bytes
pub record AreSpansOfBytes (f : Flags) (bytes : List ℕ) (t : Tree) (spans : List Span) : Type 0 where
  pub parsed : AreParsedSpans f bytes t (map span_of spans)
  pub within : (i : ℕ) → ((span_at spans i).start ≤ (span_at spans i).end) × ((span_at spans i).end ≤ length bytes)

-- the spans are those of the bytes under the flags with these bits; or there are none, if a bit says so
pub record AreSpansAsked (flags : ℕ) (bytes : List ℕ) (t : Tree) (spans : List Span) : Type 0 where
  pub asked : has_bit flags FLAG_WITHOUT_SPANS ≡ false → AreSpansOfBytes (flags_of flags) bytes t spans
  pub left_out : has_bit flags FLAG_WITHOUT_SPANS ≡ true → spans ≡ []

-- The info is that of the tree of the bytes. A pattern of n bytes has at most 2 n + 1 nodes and as many back references;
-- its texts have at most 6 n bytes, and its names at most n rows.
pub record IsSummaryOf (info : TreeInfo) (f : Flags) (bytes : List ℕ) (t : Tree) (m : GroupInfo) : Type 0 where
  pub tree : IsTreeOfBytes f bytes t m
  pub is : info ≡ summary t m
  pub few : info.node_count ≤ 2 * length bytes + 1
  pub few_backrefs : info.backref_count ≤ 2 * length bytes + 1
  pub short_texts : info.texts_size ≤ 6 * length bytes
  pub few_names : info.name_count ≤ length bytes

-- these capacities of the buffers suffice for the tree of each pattern of n bytes
pub record AreEnough (n nodes texts names backrefs : ℕ) : Type 0 where
  pub for_nodes : 2 * n + 1 ≤ nodes
  pub for_texts : 6 * n ≤ texts
  pub for_names : n ≤ names
  pub for_backrefs : 2 * n + 1 ≤ backrefs
