-- How many bytes and lines there are.
use Rattle.std.proofs.Common.{◌≡◌, ℕ, suc, ◌+◌, ◌-◌, ◌*◌, ◌<◌, ◌≤◌, arith}
use Rattle.outer_world.specs.Device.{Rose}

pub later_on : (before mid now : ℕ) → before ≤ mid → mid ≤ now → before ≤ now
later_on before mid now a b = omega (arith, a, b)

pub no_less : (n : ℕ) → n ≤ n
no_less n = omega arith

pub rose_later : (before mid now : ℕ) → before ≤ mid → Rose mid now → Rose before now
rose_later before mid now later rose = omega (arith, later, rose)

pub within_same : (most a b : ℕ) → a ≡ b → b ≤ most → a ≤ most
within_same most a b e h = omega (arith, e, h)

pub none_few : (most : ℕ) → 0 ≤ most
none_few most = omega arith

pub not_none : (size before : ℕ) → 0 ≡ size → size ≡ before + 1 → ⊥
not_none size before a b = omega (arith, a, b)

-- bytes came behind those that stood there
pub sum_on : (total next lines old bytes both new : ℕ) → total ≡ lines + old → next ≡ total + bytes → both ≡ old + bytes → new ≡ both →
    next ≡ lines + new
sum_on total next lines old bytes both new a b c d = omega (arith, a, b, c, d)

-- a line is passed
pub sum_passed : (old new lines pending all split more rest next : ℕ) → old ≡ lines + pending → new ≡ old → all ≡ lines + pending →
    split ≡ more + rest → all ≡ split → next ≡ rest → new ≡ more + next
sum_passed old new lines pending all split more rest next a b c d e f = omega (arith, a, b, c, d, e, f)

-- as many came as may come
pub sum_full : (most total lines pending front both all : ℕ) → total ≡ lines + pending → total + front ≡ most → all ≡ lines + both →
    both ≡ pending + front → all ≡ most
sum_full most total lines pending front both all a b c d = omega (arith, a, b, c, d)

-- no more came than may come
pub sum_within : (most total lines pending bytes both all : ℕ) → total ≡ lines + pending → total + bytes ≤ most → both ≡ pending + bytes →
    all ≡ lines + both → all ≤ most
sum_within most total lines pending bytes both all a b c d = omega (arith, a, b, c, d)

-- a line more
pub line_more : (number lines next : ℕ) → number ≡ lines → next ≡ lines + 1 → number + 1 ≡ next
line_more number lines next a b = omega (arith, a, b)

pub line_within : (most number lines next text total pending : ℕ) → number ≡ lines → next ≡ lines + 1 → next ≤ text → total ≡ text + pending →
    total ≤ most → number + 1 ≤ most
line_within most number lines next text total pending a b c d e = omega (arith, a, b, c, d, e)

-- less is left, of what may come and of what stands there
pub less_left : (most old mid new pending bytes there long front rest next : ℕ) → long ≡ there → there ≡ pending + bytes → mid ≡ old + bytes →
    long ≡ front + suc rest → next ≡ rest → new ≡ mid → new ≤ most → 2 * (most - new) + next < 2 * (most - old) + pending
less_left most old mid new pending bytes there long front rest next a b c d e f g = omega (arith, a, b, c, d, e, f, g)
