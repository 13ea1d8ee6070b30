-- That what was written begins what is written when more lines have come.
use Rattle.std.proofs.Common.{◌≡◌, ℕ, ◌+◌, ◌≤◌, nat_le, nat_lt, Bool, true, false, ◌&&◌, if◌then◌else◌, Option, Some, None, List, [], ◌∷◌, ◌++◌, length, refl, sym, ap, subst, ◌∙◌, arith, append-nil, length-append}
use Rattle.std.proofs.lemmas.Bool.{and_parts, false≢true}
use Rattle.std.proofs.lemmas.Bool.Decides.{nat_tests}
use Rattle.std.proofs.lemmas.List.{append_assoc}
use Rattle.std.proofs.lemmas.Option.{none-some}
use Rattle.std.specs.List.{list_all}
use Rattle.report_text.specs.declared.lines.ReportEnd.{ReportEnd}
use Rattle.report_parts.proofs.Grows.{all_keep, same_block, same_block_over}
use Rattle.report_parts.proofs.Stays.{none_behind, only_add}
use Rattle.report_parts.specs.Ends.{end_behind, end_of_all}
use Rattle.report_parts.specs.Laws.{AllReach, Reaches}
use Rattle.report_parts.specs.Laws.Reaches.{goes as reaches, stays as rests}
use Rattle.report_parts.specs.Reports.{block_over, block_text}
use Rattle.report_parts.specs.Rounds.{has_block, is_ended, is_over}
use Rattle.report_parts.specs.Told.{Told}
use Rattle.report_parts.specs.declared.block.Block.{Block}
use Rattle.report_parts.specs.declared.shape.Shape.{Shape}
use Rattle.report_parts.specs.Written.{Wanted, Writes, WrittenStays, end_at, end_text, is_narrow_at}
use Rattle.report_parts.specs.Written.Writes.{ends, goes, waits}

-- ---- a report that has ended

ended_rests : (query : List ℕ) (shape : Shape) (told later : Told) → Reaches query shape told later → is_ended told.place ≡ true → later ≡ told
ended_rests query shape told later (rests same) ended = refl
ended_rests query shape told later (reaches from line next last h k) ended =
    absurd (false≢true (sym (none_behind from.place query shape from line next h) ∙ ended))

all_rest : (query : List ℕ) (shape : Shape) (round : ℕ) (parts laters : List Told) → AllReach query shape parts laters →
    list_all (is_over round) parts ≡ true → laters ≡ parts
all_rest query shape round [] [] h over = refl
all_rest query shape round [] (later ∷ laters) h over = absurd h
all_rest query shape round (part ∷ parts) [] h over = absurd h
all_rest query shape round (part ∷ parts) (later ∷ laters) h over =
    let each = and_parts (is_over round part) (list_all (is_over round) parts) over in
    let own = and_parts (is_ended part.place) (nat_le (length part.blocks) (round + 1)) each.0 in
    rw (ended_rests query shape part later h.0 own.0, all_rest query shape round parts laters h.1 each.1) refl

-- the report ends as it ended before
end_rests : (query : List ℕ) (shape : Shape) (narrow last over : Bool) (round : ℕ) (parts laters : List Told) (end : ReportEnd) →
    list_all (is_over round) parts ≡ over → AllReach query shape parts laters →
    end_behind narrow last round parts ≡ Some end → end_behind narrow last round laters ≡ Some end
end_rests query shape true last over round parts laters end o h e = e
end_rests query shape false true over round parts laters end o h e = e
end_rests query shape false false true round parts laters end o h e = rw (all_rest query shape round parts laters h o) e
end_rests query shape false false false round parts laters end o h e =
    absurd (none-some end (subst (λ (b : Bool). (if b then Some (end_of_all parts) else None) ≡ Some end) o e))

-- ---- a report that goes on

no_less : (a b : ℕ) → b ≤ a → nat_lt a b ≡ false
no_less a b le = grind (arith, nat_tests)

at_most : (a b : ℕ) → nat_le a b ≡ true → a ≤ b
at_most a b e = grind (arith, nat_tests)

grows : (query : List ℕ) (shape : Shape) (told later : Told) → Reaches query shape told later → length told.blocks ≤ length later.blocks
grows query shape told later (rests same) = omega arith
grows query shape told later (reaches from line next last h k) =
    let more = only_add query shape from line next h in
    let longer : length next.blocks ≡ length from.blocks + length more.more = ap length more.blocks ∙ length-append from.blocks more.more in
    let behind = grows query shape next last k in
    omega (arith, longer, behind)

-- a part that ends behind the round, and had not ended yet, had no block behind it
not_yet : (query : List ℕ) (shape : Shape) (round : ℕ) (told later : Told) (ended : Bool) → is_ended told.place ≡ ended →
    Reaches query shape told later → is_over round later ≡ true → is_over round told ≡ false → has_block (round + 1) told ≡ false
not_yet query shape round told later true e h over fails =
    absurd (false≢true (sym fails ∙ subst (λ (t : Told). is_over round t ≡ true) (ended_rests query shape told later h e) over))
not_yet query shape round told later false e h over fails =
    let own = and_parts (is_ended later.place) (nat_le (length later.blocks) (round + 1)) over in
    let most : length later.blocks ≤ round + 1 = at_most (length later.blocks) (round + 1) own.1 in
    let fewer = grows query shape told later h in
    rw (e, no_less (round + 1) (length told.blocks) (omega (arith, most, fewer))) refl

and_false : (a b : Bool) → b ≡ false → (a && b) ≡ false
and_false true b e = e
and_false false b e = refl

first_false : (a b : Bool) → a ≡ false → (a && b) ≡ false
first_false true b e = absurd (false≢true (sym e))
first_false false b e = refl

rest_false : (a b : Bool) → a ≡ true → (a && b) ≡ false → b ≡ false
rest_false true b e h = h
rest_false false b e h = absurd (false≢true e)

not_first : (query : List ℕ) (shape : Shape) (round : ℕ) (part later : Told) (parts : List Told) (own : Bool) → is_over round part ≡ own →
    Reaches query shape part later → is_over round later ≡ true → list_all (is_over round) (part ∷ parts) ≡ false →
    (list_all (is_over round) parts ≡ false → list_all (has_block (round + 1)) parts ≡ false) → list_all (has_block (round + 1)) (part ∷ parts) ≡ false
not_first query shape round part later parts true e h over fails others =
    and_false (has_block (round + 1) part) (list_all (has_block (round + 1)) parts) (others (rest_false (is_over round part) (list_all (is_over round) parts) e fails))
not_first query shape round part later parts false e h over fails others =
    first_false (has_block (round + 1) part) (list_all (has_block (round + 1)) parts)
    (not_yet query shape round part later (is_ended part.place) refl h over e)

-- where all end behind the round now, and did not before, not all had a block behind it
pub not_all_yet : (query : List ℕ) (shape : Shape) (round : ℕ) (parts laters : List Told) → AllReach query shape parts laters →
    list_all (is_over round) laters ≡ true → list_all (is_over round) parts ≡ false → list_all (has_block (round + 1)) parts ≡ false
not_all_yet query shape round [] [] h over fails = absurd (false≢true (sym fails))
not_all_yet query shape round [] (later ∷ laters) h over fails = absurd h
not_all_yet query shape round (part ∷ parts) [] h over fails = absurd h
not_all_yet query shape round (part ∷ parts) (later ∷ laters) h over fails =
    let each = and_parts (is_over round later) (list_all (is_over round) laters) over in
    not_first query shape round part later parts (is_over round part) refl h.0 each.0 fails
    (λ none. not_all_yet query shape round parts laters h.1 each.1 none)

-- the report that goes on behind the round, and ends there with more lines, had no block behind it
pub none_behind_yet : (query : List ℕ) (shape : Shape) (narrow last over now : Bool) (round : ℕ) (parts laters : List Told) (end : ReportEnd) →
    list_all (is_over round) parts ≡ over → list_all (is_over round) laters ≡ now → AllReach query shape parts laters →
    end_behind narrow last round parts ≡ None → end_behind narrow last round laters ≡ Some end → list_all (has_block (round + 1)) parts ≡ false
none_behind_yet query shape true last over now round parts laters end o n h none some = absurd (none-some _ (sym none))
none_behind_yet query shape false true over now round parts laters end o n h none some = absurd (none-some _ (sym none))
none_behind_yet query shape false false true now round parts laters end o n h none some =
    absurd (none-some (end_of_all parts) (sym (subst (λ (b : Bool). (if b then Some (end_of_all parts) else None) ≡ None) o none)))
none_behind_yet query shape false false false false round parts laters end o n h none some =
    absurd (none-some end (subst (λ (b : Bool). (if b then Some (end_of_all laters) else None) ≡ Some end) n some))
none_behind_yet query shape false false false true round parts laters end o n h none some = not_all_yet query shape round parts laters h n o

-- ---- what is written

nothing_yet : (wanted : Wanted) (parts : List Told) (round : ℕ) (text : List ℕ) (end : Option ReportEnd) → Writes wanted parts round text end →
    list_all (has_block round) parts ≡ false → text ≡ []
nothing_yet wanted parts round text end (waits r h) fails = refl
nothing_yet wanted parts round text end (ends r e has said there) fails = absurd (false≢true (sym fails ∙ has))
nothing_yet wanted parts round text end (goes r rest e has said there k) fails = absurd (false≢true (sym fails ∙ has))

-- whether the block is narrow does not change
pub same_end : (query : List ℕ) (wanted : Wanted) (round : ℕ) (parts laters : List Told) → AllReach query wanted.shape parts laters →
    list_all (has_block round) parts ≡ true →
    end_at wanted round laters ≡ end_behind (wanted.narrow (block_over round wanted.shape parts)) (wanted.last round) round laters
same_end query wanted round parts laters h has =
    ap (λ (block : Block). end_behind (wanted.narrow block) (wanted.last round) round laters) (same_block_over query wanted.shape round parts laters h has)

pub end_stays : (query : List ℕ) (wanted : Wanted) (round : ℕ) (parts laters : List Told) (end : ReportEnd) → AllReach query wanted.shape parts laters →
    list_all (has_block round) parts ≡ true → end_at wanted round parts ≡ Some end → end_at wanted round laters ≡ Some end
end_stays query wanted round parts laters end h has e =
    same_end query wanted round parts laters h has
    ∙ end_rests query wanted.shape (wanted.narrow (block_over round wanted.shape parts)) (wanted.last round) (list_all (is_over round) parts) round parts laters end
    refl h e

pub some_same : (a b : ReportEnd) → Some a ≡ Some b → a ≡ b
some_same a b e = cc

pub written_stays : WrittenStays
written_stays query wanted parts laters round text longer end later h (waits r fails) now = record { more = longer; split = refl }
written_stays query wanted parts laters round text longer end later h (ends r e has said there) (waits s fails) =
    absurd (false≢true (sym fails ∙ all_keep query wanted.shape round parts laters h has))
written_stays query wanted parts laters round text longer end later h (ends r e has said there) (ends s other now said_now f) =
    let same : other ≡ e = some_same other e (sym f ∙ end_stays query wanted round parts laters e h has there) in
    record {
      more = [];
      split =
          ap (λ (e : ReportEnd). block_text round wanted.shape laters ++ end_text e) same
          ∙ ap (λ (block : List ℕ). block ++ end_text e) (same_block query wanted.shape round parts laters h has)
          ∙ sym (append-nil (block_text round wanted.shape parts ++ end_text e));
    }
written_stays query wanted parts laters round text longer end later h (ends r e has said there) (goes s rest behind now said_now none k) =
    absurd (none-some e (sym none ∙ end_stays query wanted round parts laters e h has there))
written_stays query wanted parts laters round text longer end later h (goes r rest behind has said none k) (waits s fails) =
    absurd (false≢true (sym fails ∙ all_keep query wanted.shape round parts laters h has))
written_stays query wanted parts laters round text longer end later h (goes r rest behind has said none k) (ends s e now said_now f) =
    let narrow = is_narrow_at wanted round parts in
    let nothing : rest ≡ [] =
    nothing_yet wanted parts (round + 1) rest behind k
    (none_behind_yet query wanted.shape narrow (wanted.last round) (list_all (is_over round) parts) (list_all (is_over round) laters) round parts laters e
    refl refl h none (sym (same_end query wanted round parts laters h has) ∙ f)) in
    let tail = end_text e in
    record {
      more = tail;
      split =
          ap (λ (block : List ℕ). block ++ tail) (same_block query wanted.shape round parts laters h has)
          ∙ ap (λ (block : List ℕ). block ++ tail) (sym (append-nil (block_text round wanted.shape parts)))
          ∙ ap (λ (behind : List ℕ). (block_text round wanted.shape parts ++ behind) ++ tail) (sym nothing);
    }
written_stays query wanted parts laters round text longer end later h (goes r rest behind has said none k) (goes s rest_now behind_now now said_now none_now k_now) =
    let after = written_stays query wanted parts laters (round + 1) rest rest_now behind behind_now h k k_now in
    record {
      more = after.more;
      split =
          ap (λ (block : List ℕ). block ++ rest_now) (same_block query wanted.shape round parts laters h has)
          ∙ ap (λ (rest : List ℕ). block_text round wanted.shape parts ++ rest) after.split
          ∙ sym (append_assoc (block_text round wanted.shape parts) rest after.more);
    }
