-- Where words that are no command go wrong.
use Rattle.std.proofs.Common.{◌≡◌, ℕ, zero, suc, ◌+◌, ◌≤◌, Option, Some, None, Ok, Err, List, [], ◌∷◌, ◌++◌, length, take, option_map, refl, sym, ap, ◌∙◌, codes, arith, rules}
use Rattle.std.specs.Option.{option_map_or}
use Rattle.command_line.specs.Commands.{IsNumber, IsPartsNumber, Command, GoesWrong, options_given}
use Rattle.command_line.specs.Reading.{Next, name, word, number, policy, option, parts, limiting, done, after, after_ask, answer, at_end}
use Rattle.plane_schedule.specs.declared.policies.FixedPolicy.TheVariants.{Widest}
use Rattle.command_line.proofs.Numbers.{number_some, parts_some}
use Rattle.command_line.proofs.Steps.{answer-none, answer-step}
use Rattle.command_line.proofs.Whole.{command_whole, policy_some, after_name_ask}
use Rattle.command_line.proofs.Sound.{command_is}

-- some words make whole what comes next
record Completes (next : Next) (at : ℕ) : Type 0 where
  rest : List (List ℕ)
  command : Command
  whole : answer next at rest ≡ Ok command

completes_more : (next behind : Next) (at : ℕ) (w : List ℕ) → after next w ≡ Some behind → Completes behind (at + 1) → Completes next at
completes_more next behind at w e c = record {
  rest = w ∷ c.rest;
  command = c.command;
  whole = answer-step next behind at w c.rest e
      ∙ c.whole;
}

zero_is : (limit : ℕ) → IsNumber limit (codes "0") 0
zero_is limit = record { digits = search rules; value = refl; small = omega arith }

one_is : IsPartsNumber (codes "1") 1
one_is = record {
  is_number = record { digits = search rules; value = refl; small = omega arith };
  some = omega arith;
}

completes : (next : Next) (at : ℕ) → Completes next at
completes name at =
    completes_more name after_ask at (codes "ask") after_name_ask
    (completes_more _ _ (at + 1) [] refl
    (completes_more _ _ (at + 1 + 1) [] refl
    (completes_more _ _ (at + 1 + 1 + 1) [] refl
    (record { rest = []; command = _; whole = answer-none _ (at + 1 + 1 + 1 + 1) }))))
completes (word k) at = completes_more (word k) (k []) at [] refl (completes (k []) (at + 1))
completes (number limit k) at = completes_more (number limit k) (k 0) at (codes "0")
    (ap (option_map k) (number_some limit (codes "0") 0 (zero_is limit))) (completes (k 0) (at + 1))
completes (policy k) at = completes_more (policy k) (k Widest) at (codes "widest")
    (ap (option_map k) (policy_some (codes "widest") Widest refl)) (completes (k Widest) (at + 1))
completes (option by_name g k) at = record { rest = []; command = k (options_given g); whole = answer-none (option by_name g k) at }
completes (parts k) at =
    completes_more (parts k) (k 1) at (codes "1") (ap (option_map k) (parts_some (codes "1") 1 one_is)) (completes (k 1) (at + 1))
completes (limiting g k) at = record { rest = []; command = k g; whole = answer-none (limiting g k) at }
completes (done c) at = record { rest = []; command = c; whole = answer-none (done c) at }

-- the longest list of first words with which something goes on, where the place is one past it
record Stuck (next : Next) (at : ℕ) (words : List (List ℕ)) (place : ℕ) : Type 0 where
  longest : ℕ
  next_place : place ≡ at + longest + 1
  within : longest ≤ length words
  rest : List (List ℕ)
  command : Command
  whole : answer next at (take longest words ++ rest) ≡ Ok command
  most : (n : ℕ) → n ≤ length words → (rest : List (List ℕ)) (c : Command) → answer next at (take n words ++ rest) ≡ Ok c → n ≤ longest

stuck_here : (next : Next) (at : ℕ) (words : List (List ℕ)) (place : ℕ) → place ≡ at + 1 →
    ((n : ℕ) → n ≤ length words → (rest : List (List ℕ)) (c : Command) → answer next at (take n words ++ rest) ≡ Ok c → n ≤ 0) →
    Stuck next at words place
stuck_here next at words place e most =
    let c = completes next at in
    record { longest = 0; next_place = omega arith; within = omega arith; rest = c.rest; command = c.command; whole = c.whole; most = most }

none_longer : (next : Next) (at : ℕ) (w : List ℕ) (ws : List (List ℕ)) → after next w ≡ None →
    (n : ℕ) → n ≤ length (w ∷ ws) → (rest : List (List ℕ)) (c : Command) → answer next at (take n (w ∷ ws) ++ rest) ≡ Ok c → n ≤ 0
unfolding answer
none_longer next at w ws none zero h rest c e = omega arith
none_longer next at w ws none (suc n) h rest c e =
    let stop : Err (at + 1) ≡ Ok c = rw none at e in cc

one_longer : (next behind : Next) (at : ℕ) (w : List ℕ) (ws : List (List ℕ)) (longest : ℕ) → after next w ≡ Some behind →
    ((n : ℕ) → n ≤ length ws → (rest : List (List ℕ)) (c : Command) → answer behind (at + 1) (take n ws ++ rest) ≡ Ok c → n ≤ longest) →
    (n : ℕ) → n ≤ length (w ∷ ws) → (rest : List (List ℕ)) (c : Command) → answer next at (take n (w ∷ ws) ++ rest) ≡ Ok c → n ≤ suc longest
one_longer next behind at w ws longest leads most zero h rest c e = omega arith
one_longer next behind at w ws longest leads most (suc n) h rest c e =
    let less = most n (omega arith) rest c (sym (answer-step next behind at w (take n ws ++ rest) leads) ∙ e) in omega arith

stuck_on : (next : Next) (at : ℕ) (w : List ℕ) (ws : List (List ℕ)) (place : ℕ) →
    ((behind : Next) → answer behind (at + 1) ws ≡ Err place → Stuck behind (at + 1) ws place) →
    (o : Option Next) → after next w ≡ o → option_map_or (λ n. answer n (at + 1) ws) o (Err (at + 1)) ≡ Err place →
    Stuck next at (w ∷ ws) place
stuck_on next at w ws place ih None none e =
    let here : place ≡ at + 1 = cc in stuck_here next at (w ∷ ws) place here (none_longer next at w ws none)
stuck_on next at w ws place ih (Some behind) leads e =
    let s = ih behind e in
    record {
      longest = suc s.longest;
      next_place = let p = s.next_place in omega arith;
      within = let p = s.within in omega arith;
      rest = s.rest;
      command = s.command;
      whole = answer-step next behind at w (take s.longest ws ++ s.rest) leads ∙ s.whole;
      most = one_longer next behind at w ws s.longest leads s.most;
    }

missing : (next : Next) (at place : ℕ) → at_end next at ≡ Err place → place ≡ at + 1
missing name at place e = cc
missing (word k) at place e = cc
missing (number limit k) at place e = cc
missing (policy k) at place e = cc
missing (option by_name g k) at place e = cc
missing (parts k) at place e = cc
missing (limiting g k) at place e = cc
missing (done c) at place e = cc

stuck : (next : Next) (at : ℕ) (words : List (List ℕ)) (place : ℕ) → answer next at words ≡ Err place → Stuck next at words place
unfolding answer
stuck next at [] place e = stuck_here next at [] place (missing next at place e) (λ n h rest c x. omega arith)
stuck next at (w ∷ ws) place e = stuck_on next at w ws place (λ behind. stuck behind (at + 1) ws place) (after next w) refl e

-- words that are not read whole are no command, and go wrong where they are not read on
pub goes_wrong : (words : List (List ℕ)) (place : ℕ) → answer name 0 words ≡ Err place → GoesWrong words place
goes_wrong words place e =
    let s = stuck name 0 words place e in
    record {
      no_command = λ c is. let whole = command_whole words c is in let never : Ok c ≡ Err place = sym whole ∙ e in cc;
      is_place = record {
        longest = s.longest;
        next = let p = s.next_place in omega arith;
        within = s.within;
        begins = record { rest = s.rest; command = s.command; is_command = command_is _ s.command s.whole };
        most = λ n h b. s.most n h b.rest b.command (command_whole _ b.command b.is_command);
      };
    }
