-- Reading back a key sheet: sections of lines, one for each day.
use Rattle.kd_sheet.proofs.ReadBack.{FileEntry, IsWritten, line_of, expression_of, lines_text, is_low, no_mark}
use Rattle.kd_sheet.proofs.ReadBack.{Bool, List, Option, Some, ℕ, [], ◌∷◌, ◌++◌, ◌≡◌, ◌∙◌, true, false, refl, ap}
use Rattle.kd_sheet.proofs.ReadBack.{arith, append_assoc, codes, map, suc, length, option_map, Expression, AllPrinted, IsLinesText}
use Rattle.kd_sheet.proofs.ReadBack.{key_name, Data, member, no_members, AllByRecursion, list_all, list_all-append}
use Rattle.kd_sheet.proofs.ReadBack.{cases_Bool, read_lines, run, close, no_nodes, document_parsed, IsUtf8-from_ascii, IsAscii-from_all}
use Rattle.kd_sheet.proofs.ReadBack.{AllPass-from_list_all, ltb-true, document_of, parse_document, Ok, option_and_then}
use Rattle.kd_sheet.proofs.ReadBack.{items_list, array}
use Rattle.kd_sheet.specs.declared.key.Key.TheVariants as keys
use Rattle.kd_sheet.specs.SheetText.{sections_text, section_gap}
use Rattle.toml.specs.Text.{IsLineText}
use Rattle.toml_writer.specs.Text.{key_text}
use Rattle.toml.proofs.Lines.{IsLinesText-append}
use Rattle.toml.proofs.Fill.{run-append}
use Rattle.toml.specs.Data.{Items, no_items, item, push_item, table}
use Rattle.toml.specs.Tables.{Nodes, node, open_array, put, array_table, Document, define, along_header, at_key}

-- ---- the text

abbrev day_header : Expression
day_header = (([], key_name keys.Day), array_table)

abbrev section_expressions : List FileEntry → List Expression
section_expressions entries = day_header ∷ map expression_of entries

abbrev all_expressions : List (List FileEntry) → List Expression
all_expressions [] = []
all_expressions (entries ∷ days) = section_expressions entries ++ all_expressions days

printed_both : (es fs : List Expression) → AllPrinted es → AllPrinted fs → AllPrinted (es ++ fs)
printed_both [] fs all more = more
printed_both (e ∷ es) fs all more = (all.0, printed_both es fs all.1 more)

header_text : (started : Bool)
    → IsLineText false started day_header.0 day_header.1 (section_gap started ++ codes "[[day]]\n")
unfolding key_text
header_text true = refl
header_text false = refl

-- the sections are a TOML text of their expressions, which the parser accepts, and their bytes are ASCII
sections_lines : (started : Bool) (days : List (List FileEntry)) → AllByRecursion (AllByRecursion IsWritten) days
    → IsLinesText false started (all_expressions days) (sections_text started (map (map line_of) days))
    × AllPrinted (all_expressions days) × (list_all is_low (sections_text started (map (map line_of) days)) ≡ true)
sections_lines started [] all = (refl, tt, refl)
sections_lines started (entries ∷ days) all =
    let here = lines_text true entries all.0 in
    let more = sections_lines true days all.1 in
    let joined = IsLinesText-append false true (map expression_of entries) (all_expressions days) _ _ here.0 more.0 in (
      (section_gap started ++ codes "[[day]]\n", _, grind (arith, append_assoc), header_text started, joined),
      (grind arith, printed_both (map expression_of entries) (all_expressions days) here.1 more.1),
      grind (arith, list_all-append, cases_Bool),
    )

-- ---- what the lines define

-- the pairs of the entries, put into a table one after another
abbrev pub put_all : List FileEntry → Nodes → Option Nodes
put_all [] ns = Some ns
put_all (entry ∷ entries) ns = option_and_then (put_all entries) (put ([], key_name entry.0) entry.1 ns)

-- a document whose last day is open, and holds `last`
abbrev days_nodes : Items → Nodes → Nodes
days_nodes done last = node (key_name keys.Day) (open_array done last) no_nodes

abbrev day_path : List (List ℕ)
day_path = key_name keys.Day ∷ []

abbrev in_day : Items → Nodes → Document
in_day done last = (days_nodes done last, day_path)

defines : (entry : FileEntry) (done : Items) (last : Nodes)
    → define (in_day done last) (expression_of entry)
    ≡ option_map (in_day done) (put ([], key_name entry.0) entry.1 last)
unfolding define along_header
defines entry done last = grind arith

run_entries : (entries : List FileEntry) (done : Items) (last : Nodes)
    → run (in_day done last) (map expression_of entries) ≡ option_map (in_day done) (put_all entries last)
run_entries [] done last = refl
run_entries (entry ∷ entries) done last = grind (arith, defines, run_entries entries)

opens : (done : Items) (last : Nodes)
    → define (in_day done last) day_header ≡ Some (in_day (push_item done (table (close last))) no_nodes)
unfolding define along_header at_key
opens done last = refl

opens_first : define (no_nodes, []) day_header ≡ Some (in_day no_items no_nodes)
unfolding define along_header at_key
opens_first = refl

listed : (done : Items) (d : Data) → items_list (push_item done d) ≡ items_list done ++ d ∷ []
listed no_items d = refl
listed (item e done) d = ap (λ rest. e ∷ rest) (listed done d)

-- the days that stand open at the end of a document are the items of its array
record Holds (doc : Document) (items : List Data) : Type 0 where
  ds : Items
  closed : close doc.0 ≡ member (key_name keys.Day) (array ds) no_members
  has : items_list ds ≡ items

module _ {X : Type 0} (entries_of : X → List FileEntry) (nodes_of : X → Nodes)
    (made : (x : X) → put_all (entries_of x) no_nodes ≡ Some (nodes_of x)) where
  abbrev pub item_of : X → Data
  item_of x = table (close (nodes_of x))

  -- a day's section, after its header
  run_section : (x : X) (done : Items) (rest : List Expression)
      → run (in_day done no_nodes) (map expression_of (entries_of x) ++ rest)
      ≡ run (in_day done (nodes_of x)) rest
  run_section x done rest =
      run-append (in_day done no_nodes) (map expression_of (entries_of x)) rest
      ∙ ap (λ doc. option_and_then (λ d. run d rest) doc)
      (run_entries (entries_of x) done no_nodes ∙ ap (λ ns. option_map (in_day done) ns) (made x))

  run_days : (xs : List X) (done : Items) (last : Nodes)
      → (doc : Document) × (run (in_day done last) (all_expressions (map entries_of xs)) ≡ Some doc)
      × Holds doc (items_list done ++ table (close last) ∷ map item_of xs)
  run_days [] done last = (in_day done last, refl, record { ds = _; closed = refl; has = listed done (table (close last)) })
  run_days (x ∷ xs) done last =
      let now = push_item done (table (close last)) in
      let (doc, ran, holds) = run_days xs now (nodes_of x) in (
        doc,
        ap (λ next. option_and_then (λ d. run d (map expression_of (entries_of x) ++ all_expressions (map entries_of xs))) next)
            (opens done last) ∙ run_section x now (all_expressions (map entries_of xs)) ∙ ran,
        record {
          ds = holds.ds;
          closed = holds.closed;
          has = holds.has ∙ ap (λ front. front ++ item_of x ∷ map item_of xs) (listed done (table (close last)))
              ∙ append_assoc (items_list done) (table (close last) ∷ []) (item_of x ∷ map item_of xs);
        },
      )

  -- the sections of some things, at least one, are read as a document whose key `day` has an item for each
  pub sections_read : (x : X) (xs : List X) → AllByRecursion (AllByRecursion IsWritten) (map entries_of (x ∷ xs))
      → (day_list : Items)
      × (document_of (sections_text false (map (map line_of) (map entries_of (x ∷ xs))))
      ≡ Ok (member (key_name keys.Day) (array day_list) no_members))
      × (items_list day_list ≡ map item_of (x ∷ xs))
  unfolding parse_document
  sections_read x xs all =
      let lists = map entries_of (x ∷ xs) in
      let text = sections_text false (map (map line_of) lists) in
      let lines = sections_lines false lists all in
      let (doc, ran, holds) = run_days xs no_items (nodes_of x) in
      let whole : run (no_nodes, []) (all_expressions lists) ≡ Some doc =
      ap (λ next. option_and_then (λ d. run d (map expression_of (entries_of x) ++ all_expressions (map entries_of xs))) next)
      opens_first ∙ run_section x no_items (all_expressions (map entries_of xs)) ∙ ran in
      let read = read_lines false false (all_expressions lists) text text (no_nodes, []) (suc (length text))
      lines.0 lines.1 refl (omega arith) in (
        holds.ds,
        document_parsed text _
            (IsUtf8-from_ascii text (IsAscii-from_all text
            (λ place d within. ltb-true _ _ (AllPass-from_list_all is_low text lines.2 place d within))))
            (rw (no_mark text lines.2, read ∙ whole) (ap Some holds.closed)),
        holds.has,
      )
