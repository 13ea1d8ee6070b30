-- A report of a session holds what its queries ask for.
use Rattle.std.proofs.Common.{◌≡◌, ℕ, zero, suc, ◌+◌, Bool, true, false, if◌then◌else◌, List, [], ◌∷◌, ◌++◌, length, map, slice_index_or, unwrap_or, Option, Some, None, IsSome, refl, sym, ap, subst, ◌∙◌, slice_get}
use Rattle.std.proofs.lemmas.List.{length-map}
use Rattle.std.proofs.lemmas.Option.{none-some, same_Some}
use Rattle.std.proofs.lemmas.Simd.{map-map}
use Rattle.std.specs.List.{AllZip}
use Rattle.command_line.specs.Commands.{Options}
use Rattle.command_line.specs.Commands as line
use Rattle.daq_cli.proofs.Files.{if_told, opened_told}
use Rattle.daq_cli.specs.FileReports.{Completed}
use Rattle.daq_cli.specs.OfTables.{AllAreOfTables, AreOfTables}
use Rattle.daq_cli.specs.Questions.{extras_of}
use Rattle.daq_cli.specs.Report.{block_of, blocks_below, end_line}
use Rattle.daq_cli.specs.Scripts.{IsScripted, Scripted, line_step}
use Rattle.daq_cli.specs.SessionReport.{IsShownAlone, at_line, block_at, blocks_at, numbered, own_block, queries_lines, shown_of}
use Rattle.daq_cli.specs.Steps.{Step, each}
use Rattle.daq_cli.specs.commands.Session.{AreAllCertain, AskedTogether, Sessions, printed_forms, report_of, typing_step}
use Rattle.daq_table.specs.Tables.{frame_of}
use Rattle.daq_table.specs.declared.table_head.Head.{Head}
use Rattle.outer_world.specs.Device.{SinkState, SourceState, StoreState}
use Rattle.plane_course.specs.Told.{bits_at}
use Rattle.plane_file.specs.Opening.{IsFileHead}
use Rattle.plane_schedule.specs.declared.policy.Ending.{Ending}
use Rattle.plane_schedule.specs.declared.policy.Plan.{Plan}
use Rattle.query_model.specs.Queries.{Query}
use Rattle.session_script.specs.Lines.{Line}
use Rattle.sql_headline.proofs.Begun.{Laws}
use Rattle.sql_print.specs.Printed.{printed}
use Rattle.sql_text.specs.Answer.{IsText}
use Rattle.sql_text.specs.Tree as tree
use Rattle.sql_typing.specs.Refusals.{IsTyped}
use Rattle.table_rounds.specs.Rounds.{Planes}
use Rattle.table_rounds.specs.Steps.{is_moved, own_reads, places_read, plan_alone}
use Rattle.run_headline.specs.Printed.{blocks_before}
use Rattle.run_headline.specs.Asked.{HasScript, wanted_by}
use Rattle.run_headline.specs.Sessions.{AreAnswered, HasSteps, IsShownOf, piece}
use Rattle.run_headline.proofs.Ran.{IsRan, as_long, block, columns, end_is, same_before}
use Rattle.run_headline.proofs.Told.{told}

-- ---- what is accepted of each of a list

each_all : {A B : Type 0} (step : A → Step B) (xs : List A) (ys : List B) → (each step xs).accepts ys → AllZip (λ x y. (step x).accepts y) xs ys
each_all step [] ys h = subst (λ l. AllZip (λ x y. (step x).accepts y) [] l) (sym h) tt
each_all step (x ∷ xs) ys h = subst (λ l. AllZip (λ a b. (step a).accepts b) (x ∷ xs) l) (sym h.2.2) (h.1, each_all step xs h.2.0 h.2.1)

all_texts : (lines : List Line) (queries : List Scripted) → AllZip (λ one other. IsScripted one other) lines queries → AllZip (λ one query. IsText one.text query) lines (map (λ (one : Scripted). one.query) queries)
all_texts [] [] h = tt
all_texts [] (query ∷ queries) h = absurd h
all_texts (one ∷ lines) [] h = absurd h
all_texts (one ∷ lines) (query ∷ queries) h = (h.0.is_text, all_texts lines queries h.1)

abbrev queries_in : List Scripted → List tree.Query
queries_in queries = map (λ (one : Scripted). one.query) queries

-- the query at a place is typed
pub record IsTypedAt (head : Head) (typed : List Query) (place : ℕ) (query : tree.Query) : Type 0 where
  pub typed_query : Query
  pub there : slice_get typed place ≡ Some typed_query
  pub is : IsTyped query head typed_query

typed_at : (head : Head) (queries : List Scripted) (typed : List Query) → AllZip (λ one query. IsTyped one.query head query) queries typed → (place : ℕ) (query : tree.Query)
    → slice_get (map (λ (one : Scripted). one.query) queries) place ≡ Some query → IsTypedAt head typed place query
typed_at head [] typed h place query e = absurd (none-some query e)
typed_at head (one ∷ queries) [] h place query e = absurd h
typed_at head (one ∷ queries) (t ∷ typed) h zero query e = record { typed_query = t; there = refl; is = subst (λ q. IsTyped q head t) (same_Some one.query query e) h.0 }
typed_at head (one ∷ queries) (t ∷ typed) h (suc place) query e = (let rest = typed_at head queries typed h.1 place query e in record { typed_query = rest.typed_query; there = rest.there; is = rest.is })

as_many_typed : (head : Head) (queries : List Scripted) (typed : List Query) → AllZip (λ one query. IsTyped one.query head query) queries typed → length typed ≡ length queries
as_many_typed head [] [] h = refl
as_many_typed head [] (t ∷ typed) h = absurd h
as_many_typed head (one ∷ queries) [] h = absurd h
as_many_typed head (one ∷ queries) (t ∷ typed) h = ap suc (as_many_typed head queries typed h.1)

-- ---- what is shown

same_blocks : (f g : ℕ → List ℕ) → ((n : ℕ) → f n ≡ g n) → (n : ℕ) → blocks_before f n ≡ blocks_before g n
same_blocks f g each zero = refl
same_blocks f g each (suc n) = ap (λ l. l ++ f n) (same_blocks f g each n) ∙ ap (λ l. blocks_before g n ++ l) (each n)

module _ (head : Head) (plan : Plan) (bits : Planes) (places : List ℕ) where
  -- the block of a query where a step went to it
  abbrev pub block_shown : ℕ → Query → Option (List ℕ)
  block_shown step query = if is_moved plan.near (frame_of head) bits places query step then Some (own_block head plan bits places query step) else None

  abbrev pub all_shown : List Query → ℕ → List (Option (List ℕ))
  all_shown queries step = map (block_shown step) queries

  piece_by : (b : Bool) (step number : ℕ) (own : List ℕ) → (if b then at_line step number ++ own else []) ≡ piece step number (if b then Some own else None)
  piece_by true step number own = refl
  piece_by false step number own = refl

  pieces_are : (step number : ℕ) (queries : List Query) → numbered (block_at head plan bits places step) number queries ≡ numbered (piece step) number (all_shown queries step)
  pieces_are step number [] = refl
  pieces_are step number (query ∷ queries) =
      ap (λ l. l ++ numbered (block_at head plan bits places step) (number + 1) queries)
      (piece_by (is_moved plan.near (frame_of head) bits places query step) step number (own_block head plan bits places query step))
      ∙ ap (λ l. piece step number (block_shown step query) ++ l) (pieces_are step (number + 1) queries)

  shown_by : (b : Bool) (own : List ℕ) → unwrap_or (if b then Some own else None) [] ≡ (if b then own else [])
  shown_by true own = refl
  shown_by false own = refl

  shown_is : (queries : List Query) (place : ℕ) (query : Query) → slice_get queries place ≡ Some query → (step : ℕ) → unwrap_or (slice_index_or (all_shown queries step) place None) [] ≡ shown_of head plan bits query places step
  shown_is [] place query e step = absurd (none-some query e)
  shown_is (first ∷ queries) zero query e step =
      shown_by (is_moved plan.near (frame_of head) bits places first step) (own_block head plan bits places first step)
      ∙ ap (λ (w : Query). shown_of head plan bits w places step) (same_Some first query e)
  shown_is (first ∷ queries) (suc place) query e step = shown_is queries place query e step

-- ---- the report

module _ (head : Head) (plan : Plan) (bits : Planes) (typed : List Query) (reads : List ℕ) where
  abbrev places : List ℕ
  places = places_read typed reads

  abbrev shown : ℕ → List (Option (List ℕ))
  shown = all_shown head plan bits places typed

  -- the text of the steps, by what is shown of the queries
  has_steps : (queries : List Scripted) (o : Option Ending) → IsSome o →
      HasSteps (queries_in queries) shown (length reads) (queries_lines (printed_forms queries) ++ (blocks_below (blocks_at head plan typed bits) reads (length reads) ++ (blocks_at head plan typed bits reads (length reads) ++ end_line o)))
  has_steps queries o some =
      let end = end_is o some in
      let last = length reads in
      let forms = map printed (queries_in queries) in
      record {
        ending = end.0;
        is = ap (λ l. queries_lines l ++ (blocks_below (blocks_at head plan typed bits) reads last ++ (blocks_at head plan typed bits reads last ++ end_line o))) (sym (map-map printed (λ (one : Scripted). one.query) queries))
            ∙ ap (λ l. queries_lines forms ++ (l ++ (blocks_at head plan typed bits reads last ++ end_line o)))
            (same_before (blocks_at head plan typed bits) reads last ∙ same_blocks (blocks_at head plan typed bits reads) (λ step. numbered (piece step) 1 (shown step)) (λ step. pieces_are head plan bits places step 1 typed) last)
            ∙ ap (λ l. queries_lines forms ++ (blocks_before (λ step. numbered (piece step) 1 (shown step)) last ++ (l ++ end_line o))) (pieces_are head plan bits places last 1 typed)
            ∙ ap (λ l. queries_lines forms ++ (blocks_before (λ step. numbered (piece step) 1 (shown step)) last ++ (numbered (piece last) 1 (shown last) ++ l))) end.1;
      }

module _ (law : Laws) (head : Head) (plan : Plan) (bytes : List ℕ) (typed : List Query) (reads : List ℕ) (options : Options) (listing : plan.listing ≡ options.listing) (extras : plan.extras ≡ extras_of options)
    (headline : AreAllCertain plan typed head (bits_at head bytes) reads) (tables : AllAreOfTables plan typed head bytes reads) where
  abbrev bits : Planes
  bits = bits_at head bytes

  module _ (place : ℕ) (query : tree.Query) (is : IsTypedAt head typed place query) where
    abbrev own : List ℕ
    own = own_reads plan.near (frame_of head) bits (places_read typed reads) is.typed_query (length reads)

    alone : IsShownAlone head plan bits (places_read typed reads) is.typed_query (length reads) own
    alone = (tables place is.typed_query is.there).0

    of_tables : AreOfTables head (plan_alone plan own) is.typed_query bytes own
    of_tables = (tables place is.typed_query is.there).1

    abbrev ran : IsRan query head bits options
    ran = record {
      query = is.typed_query;
      plan = plan_alone plan own;
      reads = own;
      cells = of_tables.some.0;
      typed = is.is;
      rounds = alone.rounds;
      has = of_tables.some.1;
      certain = (headline place is.typed_query is.there of_tables.some.0 of_tables.some.1).0;
      listing = listing;
      extras = extras;
    }

    shown_alone : IsShownOf (wanted_by options) head bits (all_shown head plan bits (places_read typed reads) typed) (length reads) place query
    shown_alone = record {
      columns = columns law query head bits options ran;
      block = block law query head bits options ran;
      same = same_blocks (λ step. unwrap_or (slice_index_or (all_shown head plan bits (places_read typed reads) typed step) place None) []) (shown_of head plan bits is.typed_query (places_read typed reads))
          (shown_is head plan bits (places_read typed reads) typed place is.typed_query is.there) (suc (length reads))
          ∙ sym (same_before (shown_of head plan bits is.typed_query) (places_read typed reads) (suc (length reads)))
          ∙ alone.blocks ∙ same_before (block_of head (plan_alone plan own) is.typed_query bits) own (suc (length own))
          ∙ ap (λ n. blocks_before (block_of head (plan_alone plan own) is.typed_query bits own) (suc n)) (sym (as_long law query head bits options ran));
      told = told law query head bits options ran;
    }

pub session_answered : (law : Laws) (s : line.Session) (side side' : SourceState) (planes planes' : StoreState) (out out' : SinkState) → Sessions s side side' planes planes' out out' →
    (queries : List tree.Query) × HasScript side side' queries × ((bytes : List ℕ) → planes.held ≡ Some bytes →
    (version : ℕ) × (head : Head) × IsFileHead bytes version head × AreAnswered queries (wanted_by s.options) head (bits_at head bytes) out out')
session_answered law s side side' planes planes' out out' does =
    let begun = does.begun in
    let head = begun.file.head in
    let typed = begun.typed in
    let script = begun.has_opened.read in
    let accepted = begun.accepted in
    let same : accepted.0 ≡ typed = ap (λ (a : AskedTogether). a.typed) (sym accepted.2.same) in
    let all_typed : AllZip (λ (one : Scripted) (query : Query). IsTyped one.query head query) begun.queries typed =
    subst (λ l. AllZip (λ (one : Scripted) (query : Query). IsTyped one.query head query) begun.queries l) same (each_all (typing_step head) begun.queries accepted.0 accepted.1) in (
      queries_in begun.queries,
      record {
        script = script.script;
        lines = script.accepted.0;
        read = script.read;
        is_script = script.accepted.1;
        texts = all_texts script.accepted.0 begun.queries (each_all line_step script.accepted.0 begun.queries script.accepted.2);
      },
      λ bytes held.
          let completed = if_told (λ b. Completed (report_of s side side' planes does.opened begun) does.opened planes' out out' b) planes.held bytes held does.reported.completed in
          let reads = completed.rounds.reads in (
            begun.file.version,
            head,
            opened_told planes does.opened bytes held begun.file begun.has_opened.opens,
            record {
              text = _;
              written = completed.rounds.written.done;
              last = length reads;
              shown = all_shown head begun.plan (bits_at head bytes) (places_read typed reads) typed;
              as_many = λ step.
                  length-map typed (block_shown head begun.plan (bits_at head bytes) (places_read typed reads) step) ∙ as_many_typed head begun.queries typed all_typed
                  ∙ sym (length-map begun.queries (λ (one : Scripted). one.query));
              steps = has_steps head begun.plan (bits_at head bytes) typed reads begun.queries _ completed.rounds.rounds.ended;
              each = λ place query e.
                  shown_alone law head begun.plan bytes typed reads s.options begun.planned.listing begun.planned.extras completed.headline completed.tables place query (typed_at head begun.queries typed all_typed place query e);
            },
          ),
    )
