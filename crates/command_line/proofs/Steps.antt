-- One step of reading words.
use Rattle.command_line.specs.declared.reader.Flag.{Flag}
use Rattle.command_line.specs.declared.reader.Flag.TheVariants as f
use Rattle.std.proofs.lemmas.Option.{slice_get_within, get_or_from_slice_get}
use Rattle.std.proofs.Common.{length, ◌==◌, rules, drop, drop-cons, slice_get, suc, arith, Bool, true, false, is_none, not, if◌then◌else◌, ◌≡◌, ℕ, ◌+◌, Option, Some, None, Ok, Err, List, [], ◌∷◌, refl, sym, ap, ◌∙◌}
use Rattle.command_line.specs.Commands.{Given, Limits, Options, Command, reads}
use Rattle.command_line.specs.Reading.{Next, option, done, limiting, Left, Takes, Lacks, HasMore, after, after_flag, after_limit, behind, behind_limit, is_free, may_limit, flag_of, flag_text, at_end, answer, answers}

pub answer-none : (next : Next) (at : ℕ) → answer next at [] ≡ at_end next at
unfolding answer
answer-none next at = refl

pub answer-step : (next behind : Next) (at : ℕ) (w : List ℕ) (ws : List (List ℕ)) → after next w ≡ Some behind →
    answer next at (w ∷ ws) ≡ answer behind (at + 1) ws
unfolding answer
answer-step next behind at w ws e = rw e refl

pub answer-stop : (next : Next) (at : ℕ) (w : List ℕ) (ws : List (List ℕ)) → after next w ≡ None → answer next at (w ∷ ws) ≡ Err (at + 1)
unfolding answer
answer-stop next at w ws e = rw e refl

-- ---- the words left

pub goes : (next behind : Next) (old new : Left) (w : List ℕ) → Takes old w new → after next w ≡ Some behind →
    answers next old ≡ answers behind new
goes next behind old new w t e =
    ap (answer next old.at) t.words ∙ answer-step next behind old.at w new.words e ∙ ap (λ at. answer behind at new.words) (sym t.at)

pub stops : (next : Next) (old new : Left) (w : List ℕ) (place : ℕ) → Takes old w new → after next w ≡ None → place ≡ old.at + 1 →
    answers next old ≡ Err place
stops next old new w place t e p =
    ap (answer next old.at) t.words ∙ answer-stop next old.at w new.words e ∙ ap Err (sym p)

-- what comes next may not be missing
pub lacks : (next : Next) (old : Left) (place : ℕ) → at_end next old.at ≡ Err (old.at + 1) → Lacks old place → answers next old ≡ Err place
lacks next old place e l = ap (answer next old.at) l.words ∙ answer-none next old.at ∙ e ∙ ap Err (sym l.is_place)

-- nothing more may come
pub ends : (c : Command) (old : Left) → old.words ≡ [] → answers (done c) old ≡ Ok c
ends c old e = ap (answer (done c) old.at) e ∙ answer-none (done c) old.at

over : (c : Command) (at place : ℕ) (words : List (List ℕ)) → (words ≡ [] → ⊥) → place ≡ at + 1 → answer (done c) at words ≡ Err place
unfolding answer
over c at place [] some e = absurd (some refl)
over c at place (w ∷ ws) some e = ap Err (sym e)

pub goes_on : (c : Command) (old : Left) (place : ℕ) → HasMore old place → answers (done c) old ≡ Err place
goes_on c old place more = over c old.at place old.words more.words more.is_place

-- ---- options

pub text_of_flag : (flag : Flag) → flag_of (flag_text flag) ≡ Some flag
unfolding flag_of
text_of_flag f.Width = refl
text_of_flag f.Rounds = refl
text_of_flag f.Policy = refl
text_of_flag f.Reads = refl
text_of_flag f.List = refl
text_of_flag f.Part = refl
text_of_flag f.Clip = refl
text_of_flag f.Exact = refl
text_of_flag f.Keys = refl

-- the name of an option that may be given and was not yet
pub after_free : (by_name : Bool) (g : Given) (k : Options → Command) (flag : Flag) → is_free by_name flag g ≡ true →
    after (option by_name g k) (flag_text flag) ≡ Some (behind by_name flag g k)
after_free by_name g k flag free =
    ap (after_flag by_name g k) (text_of_flag flag) ∙ ap (λ b. if b then Some (behind by_name flag g k) else None) free

pub is_none_at : {A : Type 0} (o : Option A) → o ≡ None → is_none o ≡ true
is_none_at None e = refl
is_none_at (Some x) e = cc

pub not_at : (b : Bool) → b ≡ false → not b ≡ true
not_at false e = refl
not_at true e = cc

-- ---- limits

-- the name of a limit that was not given yet
pub after_limit_name : (g : Limits) (k : Limits → Command) (flag : Flag) → may_limit flag g ≡ true →
    after (limiting g k) (flag_text flag) ≡ Some (behind_limit flag g k)
after_limit_name g k flag free =
    ap (after_limit g k) (text_of_flag flag) ∙ ap (λ b. if b then Some (behind_limit flag g k) else None) free

-- a list of names was given only where it may be
abbrev pub Allowed : Bool → Given → Type 0
Allowed by_name g = (names : List ℕ) → g.order ≡ Some (reads names) → by_name ≡ true

-- ---- the next word

pub drop_here : (words : List (List ℕ)) (at : ℕ) (w : List ℕ) → slice_get words at ≡ Some w → drop at words ≡ w ∷ drop (at + 1) words
drop_here words at w e =
    let within = slice_get_within words at w e in
    let same = get_or_from_slice_get words at w w e in
    let next : suc at ≡ at + 1 = omega arith in
    drop-cons words at w within ∙ ap (λ v. v ∷ drop (suc at) words) same ∙ ap (λ n. w ∷ drop n words) next

pub none_left : (words : List (List ℕ)) → (length words == 0) ≡ true → words ≡ []
none_left [] e = refl
none_left (w ∷ ws) e = search (rules, e)
