-- Texts that are put together from parts.
use Rattle.std.proofs.Common.{◌≡◌, ◌++◌, ◌∙◌, ℕ, List, [], pos, ap, append-nil}
use Rattle.std.specs.Fmt.{signed_decimal}

abbrev number : ℕ → List ℕ
number n = signed_decimal (pos n)

-- three numbers between words, appended one after the other
pub with_three : (a b c front lent middle next whole : List ℕ) (p q r x y z : ℕ) → p ≡ x → q ≡ y → r ≡ z → front ≡ (a ++ number p) ++ b → lent ≡ front →
    middle ≡ (lent ++ number q) ++ c → next ≡ middle → whole ≡ (next ++ number r) ++ [] → whole ≡ ((((a ++ number x) ++ b) ++ number y) ++ c) ++ number z
with_three a b c front lent middle next whole p q r x y z px qy rz f l m n w =
    w ∙ append-nil (next ++ number r)
    ∙ ap (λ t. t ++ number r) (n ∙ m ∙ ap (λ t. (t ++ number q) ++ c) (l ∙ f))
    ∙ ap (λ i. ((((a ++ number i) ++ b) ++ number q) ++ c) ++ number r) px
    ∙ ap (λ i. ((((a ++ number x) ++ b) ++ number i) ++ c) ++ number r) qy
    ∙ ap (λ i. ((((a ++ number x) ++ b) ++ number y) ++ c) ++ number i) rz

-- and two
pub with_two : (a b front lent whole : List ℕ) (p q x y : ℕ) → p ≡ x → q ≡ y → front ≡ (a ++ number p) ++ b → lent ≡ front →
    whole ≡ (lent ++ number q) ++ [] → whole ≡ ((a ++ number x) ++ b) ++ number y
with_two a b front lent whole p q x y px qy f l w =
    w ∙ append-nil (lent ++ number q)
    ∙ ap (λ t. t ++ number q) (l ∙ f)
    ∙ ap (λ i. ((a ++ number i) ++ b) ++ number q) px
    ∙ ap (λ i. ((a ++ number x) ++ b) ++ number i) qy
