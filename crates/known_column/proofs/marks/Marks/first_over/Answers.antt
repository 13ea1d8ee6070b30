use Rattle.std.proofs.Common.{◌≡◌, ℕ, ◌&&◌, not, Bool, true, false, if◌then◌else◌, List, length, get_or, refl, sym, ap, ◌∙◌}
use Rattle.std.proofs.lemmas.List.{ext_get_or}
use Rattle.std.proofs.lemmas.Simd.{length-zip2}
use Rattle.std.specs.List.{position}
use Rattle.std.specs.Simd.Lanes.{zip2}
use Rattle.plane_kernels.proofs.RemainingRows.{bit-zip2}
use Rattle.known_column.specs.Marks.{allowed_rows}
use Rattle.known_column.proofs.marks.Marks.first_over.Goals as goal

at_bit : (b p t : Bool) → (t ≡ true → b ≡ false) → (b && not p) ≡ (b && not (p && not t))
at_bit b true false none = refl
at_bit b false t none = refl
at_bit true true true none = sym (none refl)
at_bit false true true none = refl

-- where no row at top has a bit of 1, rows outside are all that may not have it
only_outside : (plane possible at_top : List Bool) → length possible ≡ length plane → length at_top ≡ length plane → ((row : ℕ) → get_or at_top row false ≡ true → get_or plane row false ≡ false) →
    zip2 (λ a b. a && not b) plane possible ≡ zip2 (λ b a. b && not a) plane (zip2 (λ p t. p && not t) possible at_top)
only_outside plane possible at_top h k none =
    let allowed = zip2 (λ p t. p && not t) possible at_top in
    let long : length allowed ≡ length plane = length-zip2 (λ p t. p && not t) possible at_top (h ∙ sym k) ∙ h in
    ext_get_or false (zip2 (λ a b. a && not b) plane possible) (zip2 (λ b a. b && not a) plane allowed) (length-zip2 _ plane possible (sym h) ∙ sym (length-zip2 _ plane allowed (sym long)))
    (λ r below.
    let b = get_or plane r false in
    bit-zip2 (λ a b. a && not b) refl plane possible r h ∙ at_bit b (get_or possible r false) (get_or at_top r false) (none r)
    ∙ sym (bit-zip2 (λ b a. b && not a) refl plane allowed r long ∙ ap (λ a. b && not a) (bit-zip2 (λ p t. p && not t) refl possible at_top r (k ∙ sym h))))

pub returns : goal.returns
returns c =
    let marks = c.args.self.now in
    let plane = c.args.plane.now in
    c.first_outside-2.ensures ∙ ap (position (λ b. b)) (only_outside plane marks.possible marks.at_top c.requires.possible c.requires.at_top (c.has_one.ensures c.if-has_one.false))
    ∙ ap (λ t. position (λ b. b) (zip2 (λ b a. b && not a) plane (allowed_rows t marks.possible marks.at_top))) (sym c.if-top.false)
