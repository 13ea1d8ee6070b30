-- Lines that are no wider than they have to be, one after another.
use Rattle.std.proofs.Common.{◌≡◌, ℕ, zero, suc, ◌+◌, ◌-◌, Bool, ◌≤◌, ◌<◌, true, List, [], ◌∷◌, ◌++◌, take, drop, length, get_or, refl, arith, sym, ap, ◌∙◌, subst, inl, inr, IsTrue}
use Rattle.std.proofs.lemmas.List.{append_assoc, append-nil, drop_more, length-drop, map-append, take_all, take_more}
use Rattle.shard_groups.specs.declared.cells.Cell.{Cell}
use Rattle.shard_groups.specs.declared.keys.Span.{Span}
use Rattle.shard_groups.specs.Groups.{all_keys, keys_in}
use Rattle.shard_groups.specs.Keys.{hull, is_within, meets}
use Rattle.shard_groups.specs.Lines.{AreCovered, AreLines, IsCovered}
use Rattle.shard_groups.specs.Steps.{AreNarrow, in_steps}
use Rattle.shard_groups.proofs.LineSets.{all_chain, all_more, covered_append, covered_back, covered_front, covers_itself, hull_covered, joined_covers, used_append, used_back, used_chain, used_front, used_itself, used_joined, all_used}
use Rattle.shard_groups.proofs.Spans.{within_itself}
use Rattle.shard_groups.proofs.Steps.{steps_apart}

pub narrow_itself : (cells : List (List Span)) → AreNarrow cells cells
narrow_itself cells = record { covered = covers_itself cells; used = used_itself cells; narrowest = λ others apart h. h }

pub narrow_chain : (a b c : List (List Span)) → AreNarrow a b → AreNarrow b c → AreNarrow a c
narrow_chain a b c n m = record {
  covered = all_chain a b c n.covered m.covered;
  used = used_chain c b a m.used n.used;
  narrowest = λ others apart h. m.narrowest others apart (n.narrowest others apart h);
}

-- one set of keys more, wherever it stands
insert_one : (a b m next : List (List Span)) (x : List Span) → AreNarrow (a ++ b) m → AreNarrow (x ∷ m) next → AreNarrow (a ++ x ∷ b) next
insert_one a b m next x n k =
    let all = all_chain (a ++ b) m next n.covered k.covered.1 in
    record {
      covered = covered_append a (x ∷ b) next (covered_front a b next all) (k.covered.0, covered_back a b next all);
      used = used_chain next (x ∷ m) (a ++ x ∷ b) k.used (
        (used_back (x ∷ []) a (x ∷ b) (inl (within_itself x), tt)).0,
        used_chain m (a ++ b) (a ++ x ∷ b) n.used (used_append a b (a ++ x ∷ b)
            (used_front a a (x ∷ b) (used_itself a)) (used_back b a (x ∷ b) (all_used b b (x ∷ b) (λ l h. inr h) (used_itself b)))),
      );
      narrowest = λ others apart h.
          let back = covered_back a (x ∷ b) others h in
          k.narrowest others apart (back.0, n.narrowest others apart (covered_append a b others (covered_front a (x ∷ b) others h) back.1));
    }

-- ---- a cell behind some lines

-- the line takes in the last of the others, which it meets
pub narrow_more : (cell : List Span) (from : List (List Span)) (line last : List Span) (lines : List (List Span)) → IsTrue (meets line last) →
    AreNarrow (cell ∷ from) (line ∷ (lines ++ last ∷ [])) → AreNarrow (cell ∷ from) (hull line last ∷ lines)
narrow_more cell from line last lines m n =
    let to = hull line last ∷ (lines ++ []) in
    subst (λ (ls : List (List Span)). AreNarrow (cell ∷ from) (hull line last ∷ ls)) (append-nil lines)
    (record {
      covered = all_more (cell ∷ from) (line ∷ (lines ++ last ∷ [])) to (joined_covers line last lines [] m) n.covered;
      used = used_joined line last lines [] (cell ∷ from) m n.used;
      narrowest = λ others apart h.
          let all = n.narrowest others apart h in
          let rest = covered_back lines (last ∷ []) others all.1 in
          (hull_covered line last others m apart all.0 rest.0, covered_append lines [] others (covered_front lines (last ∷ []) others all.1) tt);
    })

-- as the code has them
pub narrow_joined : (cell : List Span) (from lines rest : List (List Span)) (line last next : List Span) → IsTrue (meets line last) →
    lines ≡ rest ++ last ∷ [] → next ≡ hull line last → AreNarrow (cell ∷ from) (line ∷ lines) → AreNarrow (cell ∷ from) (next ∷ rest)
narrow_joined cell from lines rest line last next m e h n =
    subst (λ (l : List Span). AreNarrow (cell ∷ from) (l ∷ rest)) (sym h)
    (narrow_more cell from line last rest m (subst (λ (ls : List (List Span)). AreNarrow (cell ∷ from) (line ∷ ls)) e n))

push_covers : (c line : List Span) (lines : List (List Span)) → IsCovered c (line ∷ lines) → IsCovered c (lines ++ line ∷ [])
push_covers c line [] h = h
push_covers c line (l ∷ lines) (inl w) = inr (push_covers c line lines (inl w))
push_covers c line (l ∷ lines) (inr (inl w)) = inl w
push_covers c line (l ∷ lines) (inr (inr h)) = inr (push_covers c line lines (inr h))

-- the line stands behind the others
pub narrow_push : (from : List (List Span)) (line : List Span) (lines : List (List Span)) → AreNarrow from (line ∷ lines) →
    AreNarrow from (lines ++ line ∷ [])
narrow_push from line lines n = record {
  covered = all_more from (line ∷ lines) (lines ++ line ∷ []) (λ c h. push_covers c line lines h) n.covered;
  used = used_append lines (line ∷ []) from n.used.1 (n.used.0, tt);
  narrowest = λ others apart h.
      let all = n.narrowest others apart h in
      covered_append lines (line ∷ []) others all.1 (all.0, tt);
}

-- ---- some lines, and some cells

keys_more : (cells : List Cell) (done : ℕ) (cell : Cell) → done < length cells → cell ≡ get_or cells done cell →
    keys_in (take (done + 1) cells) ≡ keys_in (take done cells) ++ cell.keys ∷ []
keys_more cells done cell h e =
    ap keys_in (take_more cells done cell h) ∙ map-append (λ (c : Cell). c.keys) (take done cells) (get_or cells done cell ∷ [])
    ∙ ap (λ (c : Cell). keys_in (take done cells) ++ c.keys ∷ []) (sym e)

-- the next is a line
pub narrow_line : (keys lines m next : List (List Span)) (line : List Span) (at : ℕ) → at < length lines → line ≡ get_or lines at line →
    AreNarrow (keys ++ take at lines) m → AreNarrow (line ∷ m) next → AreNarrow (keys ++ take (at + 1) lines) next
narrow_line keys lines m next line at h e n k =
    let more : take (at + 1) lines ≡ take at lines ++ line ∷ [] = take_more lines at line h ∙ ap (λ (l : List Span). take at lines ++ l ∷ []) (sym e) in
    let all : AreNarrow ((keys ++ take at lines) ++ []) m = subst (λ (ls : List (List Span)). AreNarrow ls m) (sym (append-nil (keys ++ take at lines))) n in
    subst (λ (ls : List (List Span)). AreNarrow (keys ++ ls) next) (sym more)
    (subst (λ (ls : List (List Span)). AreNarrow ls next) (append_assoc keys (take at lines) (line ∷ [])) (insert_one (keys ++ take at lines) [] m next line all k))

-- the next is a cell
pub narrow_cell : (cells : List Cell) (lines m next : List (List Span)) (cell : Cell) (done : ℕ) → done < length cells → cell ≡ get_or cells done cell →
    AreNarrow (keys_in (take done cells) ++ lines) m → AreNarrow (cell.keys ∷ m) next → AreNarrow (keys_in (take (done + 1) cells) ++ lines) next
narrow_cell cells lines m next cell done h e n k =
    let keys = keys_in (take done cells) in
    subst (λ (ls : List (List Span)). AreNarrow (ls ++ lines) next) (sym (keys_more cells done cell h e))
    (subst (λ (ls : List (List Span)). AreNarrow ls next) (sym (append_assoc keys (cell.keys ∷ []) lines)) (insert_one keys lines m next cell.keys n k))

pub narrow_done : (cells : List Cell) (lines m : List (List Span)) (done at : ℕ) → length cells ≤ done → length lines ≤ at →
    AreNarrow (keys_in (take done cells) ++ take at lines) m → AreNarrow (keys_in cells ++ lines) m
narrow_done cells lines m done at h k n =
    subst (λ (ls : List (List Span)). AreNarrow (keys_in cells ++ ls) m) (take_all at lines k)
    (subst (λ (cs : List Cell). AreNarrow (keys_in cs ++ take at lines) m) (take_all done cells h) n)

-- ---- cells that lie within lines

-- as the code has it: a line has all keys of the cell
pub covered_at : (cell : List Span) (lines : List (List Span)) (at : ℕ) (line : List Span) (r : Bool) → at < length lines → line ≡ get_or lines at line →
    r ≡ is_within cell line → r ≡ true → IsCovered cell lines
covered_at cell [] at line r h e is true_is = absurd (omega (arith, h))
covered_at cell (first ∷ lines) zero line r h e is true_is = inl (subst (λ (l : List Span). IsTrue (is_within cell l)) e (sym is ∙ true_is))
covered_at cell (first ∷ lines) (suc at) line r h e is true_is = inr (covered_at cell lines at line r (omega (arith, h)) e is true_is)

-- a cell more lies within a line
pub covered_more : (cells : List Cell) (done : ℕ) (cell : Cell) (keys : List Span) (lines : List (List Span)) → done < length cells →
    cell ≡ get_or cells done cell → keys ≡ cell.keys → IsCovered keys lines → AreCovered (keys_in (take done cells)) lines →
    AreCovered (keys_in (take (done + 1) cells)) lines
covered_more cells done cell keys lines h e own here before =
    subst (λ (ls : List (List Span)). AreCovered ls lines) (sym (keys_more cells done cell h e))
    (covered_append (keys_in (take done cells)) (cell.keys ∷ []) lines before (subst (λ (c : List Span). IsCovered c lines) own here, tt))

-- where each cell lies within a line the lines stay
pub narrow_kept : (keys lines : List (List Span)) → AreCovered keys lines → AreNarrow (keys ++ lines) lines
narrow_kept keys lines all = record {
  covered = covered_append keys lines lines all (covers_itself lines);
  used = used_back lines keys lines (used_itself lines);
  narrowest = λ others apart h. covered_back keys lines others h;
}

-- ---- all shards

-- the cells of a shard more
pub narrow_shard : (keys all lines next : List (List Span)) → AreNarrow all lines → AreNarrow (keys ++ lines) next → AreNarrow (keys ++ all) next
narrow_shard keys all lines next n k =
    let back = covered_back keys lines next k.covered in
    record {
      covered = covered_append keys all next (covered_front keys lines next k.covered) (all_chain all lines next n.covered back);
      used = used_chain next (keys ++ lines) (keys ++ all) k.used
          (used_append keys lines (keys ++ all) (used_front keys keys all (used_itself keys)) (used_back lines keys all n.used));
      narrowest = λ others apart h.
          k.narrowest others apart
          (covered_append keys lines others (covered_front keys all others h) (n.narrowest others apart (covered_back keys all others h)));
    }

-- as the code has it: one shard in front of those done
pub narrow_before : (shards : List (List Cell)) (i : ℕ) (cells : List Cell) (lines same next : List (List Span)) → 0 < i → i ≤ length shards →
    cells ≡ get_or shards (i - 1) cells → same ≡ lines → AreNarrow (all_keys (drop i shards)) lines → AreNarrow (keys_in cells ++ same) next →
    AreNarrow (all_keys (drop (i - 1) shards)) next
narrow_before shards i cells lines same next some fits is e n k =
    let here : i - 1 < length shards = omega (arith, some, fits) in
    let back : i - 1 + 1 ≡ i = omega (arith, some) in
    let split : drop (i - 1) shards ≡ cells ∷ drop i shards =
    drop_more shards (i - 1) cells here ∙ ap (λ (c : List Cell). c ∷ drop (i - 1 + 1) shards) (sym is) ∙ ap (λ (m : ℕ). cells ∷ drop m shards) back in
    subst (λ (cs : List (List Cell)). AreNarrow (all_keys cs) next) (sym split)
    (narrow_shard (keys_in cells) (all_keys (drop i shards)) lines next n (subst (λ (ls : List (List Span)). AreNarrow (keys_in cells ++ ls) next) e k))

-- where they come one behind the other they are lines
pub narrow_lines : (cells lines : List (List Span)) → AreNarrow cells lines → IsTrue (in_steps lines) → AreLines cells lines
narrow_lines cells lines n t = record { covered = n.covered; used = n.used; apart = steps_apart lines t; narrowest = n.narrowest }

-- ---- from each to the next

one_or_none : (lines : List (List Span)) → length lines ≤ 1 → IsTrue (in_steps lines)
one_or_none [] h = refl
one_or_none (line ∷ []) h = refl
one_or_none (line ∷ next ∷ lines) h = absurd (let k : length (line ∷ next ∷ lines) ≤ 1 = h in omega (arith, k))

-- behind the last line
pub steps_done : (lines : List (List Span)) (next : ℕ) → length lines ≤ next → in_steps (drop (next - 1) lines) ≡ in_steps lines → true ≡ in_steps lines
steps_done lines next h e =
    sym (one_or_none (drop (next - 1) lines) (subst (λ (n : ℕ). n ≤ 1) (sym (length-drop (next - 1) lines)) (omega (arith, h)))) ∙ e
