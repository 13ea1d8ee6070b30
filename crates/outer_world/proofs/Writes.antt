-- Pieces that are written one after the other make one text.
use Rattle.std.proofs.Common.{◌≡◌, ℕ, zero, suc, ◌+◌, ◌<◌, List, [], ◌∷◌, ◌++◌, Bor, length, get_or, drop, Ok, Err, IsErr, refl, sym, subst, arith, append-nil, length-append}
use Rattle.std.specs.declared.option.Option.{Option}
use Rattle.std.specs.declared.result.Result.{Result}
use Rattle.std.proofs.KnownBytes.{Appends-trans}
use Rattle.std.proofs.Math.Seq.{take-append-add}
use Rattle.std.proofs.lemmas.Bool.{false≢true}
use Rattle.std.proofs.lemmas.List.{take-append-le}
use Rattle.std.specs.Io.KnownBytes.{Appends}
use Rattle.outer_world.specs.Device.{SinkState}
use Rattle.outer_world.specs.Whole.{AppendsPart, Writes, text_of}

-- a part of the first piece is one of both
pub part_before : (old new : Option (List ℕ)) (first next : List ℕ) → AppendsPart old new first → AppendsPart old new (first ++ next)
part_before old new first next p = record {
  count = p.count;
  fewer = omega (arith, length-append first next, p.fewer);
  appended = subst (Appends old new) (sym (take-append-le p.count first next (omega (arith, p.fewer)))) p.appended;
}

-- the whole first piece and a part of the next
pub part_after : (old mid new : Option (List ℕ)) (first next : List ℕ) → Appends old mid first → AppendsPart mid new next → AppendsPart old new (first ++ next)
part_after old mid new first next whole p = record {
  count = length first + p.count;
  fewer = omega (arith, length-append first next, p.fewer);
  appended = subst (Appends old new) (sym (take-append-add first next p.count)) (Appends-trans old mid new first _ whole p.appended);
}

-- the first piece was written, and then the next or a part of it
pub writes_both : {A T E : Type 0} (x : A) (result : Result T E) (old mid new : SinkState) (first next : List ℕ) →
    Writes {E = E} (Ok x) old mid first → Writes result mid new next → Writes result old new (first ++ next)
writes_both x (Ok y) old mid new first next p q = record {
  done = Appends-trans _ _ _ first next p.done q.done;
  part = tt;
  cause = record { later = omega (arith, p.cause.later, q.cause.later); failed = tt };
}
writes_both x (Err e) old mid new first next p q = record {
  done = tt;
  part = part_after _ _ _ first next p.done q.part;
  cause = record { later = omega (arith, p.cause.later, q.cause.later); failed = omega (arith, p.cause.later, q.cause.failed) };
}

-- a failed write, of which this result tells too
pub writes_failed : {A T E F : Type 0} (e : F) (result : Result T E) (old new : SinkState) (piece : List ℕ) →
    IsErr result → Writes {T = A} (Err e) old new piece → Writes result old new piece
writes_failed e (Ok y) old new piece failed p = absurd (false≢true failed)
writes_failed e (Err y) old new piece failed p = record { done = tt; part = p.part; cause = record { later = p.cause.later; failed = p.cause.failed } }

-- the first piece was not written whole, so neither were both
pub writes_cut : {A T E F : Type 0} (e : F) (result : Result T E) (old new : SinkState) (first next : List ℕ) →
    IsErr result → Writes {T = A} (Err e) old new first → Writes result old new (first ++ next)
writes_cut e (Ok y) old new first next failed p = absurd (false≢true failed)
writes_cut e (Err y) old new first next failed p =
    record { done = tt; part = part_before _ _ first next p.part; cause = record { later = p.cause.later; failed = p.cause.failed } }

-- ---- many pieces

-- the text from a piece on is that piece and the text behind it
pub text_from : (pieces : List (Bor (List ℕ))) (n : ℕ) (none : Bor (List ℕ)) → n < length pieces →
    text_of (drop n pieces) ≡ (get_or pieces n none).now ++ text_of (drop (n + 1) pieces)
text_from pieces n none h =
    let more : suc n ≡ n + 1 = omega arith in
    subst (λ k. text_of (drop n pieces) ≡ (get_or pieces n none).now ++ text_of (drop k pieces)) more (step pieces n h)
  where
    step : (pieces : List (Bor (List ℕ))) (n : ℕ) → n < length pieces → text_of (drop n pieces) ≡ (get_or pieces n none).now ++ text_of (drop (suc n) pieces)
    step [] n h = absurd (omega (arith, h))
    step (piece ∷ []) zero h = sym (append-nil piece.now)
    step (piece ∷ next ∷ pieces) zero h = refl
    step (piece ∷ pieces) (suc n) h = step pieces n (omega (arith, h))
