-- A step of a session is one of each of its members.
use Rattle.plane_schedule.specs.declared.policy.Nearness.{Nearness}
use Rattle.std.proofs.Common.{◌≡◌, ◌⊎◌, inl, inr, ℕ, zero, suc, ◌+◌, ◌<◌, ◌≤◌, ◌==◌, Bool, true, false, if◌then◌else◌, Some, List, [], ◌∷◌, length, map, get_or, refl, sym, ap, ◌∙◌, subst, arith, is_some, option_map, slice_get, slice_index, sum_by, IsFalse}
use Rattle.std.proofs.lemmas.Bool.{eq-eqb, eqb-true, ne_eqb}
use Rattle.std.proofs.lemmas.Option.{same_Some, slice_get-get_or, slice_get-map}
use Rattle.std.proofs.lemmas.Simd.{map-map}
use Rattle.std.specs.List.{All}
use Rattle.std.specs.Prelude.{IfSome}
use Rattle.daq_table.specs.Tables.{ends_at, planes}
use Rattle.known_column.specs.KnownTables.{KnownTable, column_at, read_column}
use Rattle.plane_schedule.specs.Choices.{IsUnread}
use Rattle.query_model.specs.Knowledge.{CanTake, known_at}
use Rattle.query_model.specs.Laws.{TakenIsKnowledge}
use Rattle.round_engine.specs.Narrowness.{is_narrow}
use Rattle.round_engine.specs.Stages.{IsOpenStage, Stage}
use Rattle.multi_session.specs.declared.member.Member.{Member}
use Rattle.multi_session.specs.Members.{AreColumns, HandedBelow, IsAbreast, IsMember, IsSession, WasHanded, session_of, stage_in, stages_of}
use Rattle.multi_session.specs.Sessions.{Awaits, Session, awaited, followed, session_outlook, session_stepped, unread_in}
use Rattle.multi_session.proofs.Counting.{one_more_step, reads_of}
use Rattle.multi_session.proofs.Following.{same_stage}
use Rattle.multi_session.proofs.Found.{Found, IsColumn, all_columns, found, left_of, first_unread}

-- ---- lists

maps_alike : {X Y Z : Type 0} (f : X → Z) (g : Y → Z) (xs : List X) (ys : List Y) → length xs ≡ length ys →
    ((k : ℕ) (d : X) (e : Y) → k < length xs → f (get_or xs k d) ≡ g (get_or ys k e)) → map f xs ≡ map g ys
maps_alike f g [] [] long each = refl
maps_alike f g [] (y ∷ ys) long each = absurd (omega arith)
maps_alike f g (x ∷ xs) [] long each = absurd (omega arith)
maps_alike f g (x ∷ xs) (y ∷ ys) long each = rw (each 0 x y (omega arith), maps_alike f g xs ys (omega arith) (λ k d e h. each (suc k) d e (omega arith))) refl

-- ---- the column that is read

pub place_inside : (places : List ℕ) (table : KnownTable) (column : ℕ) → AreColumns places table → column < length places → column < length table.frame.columns
place_inside places table column are h = let all = are.count in omega (arith, h, all)

-- some plane of it is unread
pub plane_left : (near : Nearness) (steps column : ℕ) (places : List ℕ) (table : KnownTable) (members : List Member) → IsSession near places table members steps →
    IsUnread (session_outlook (session_of near places table members steps)) column → (known_at table.known column).read < planes (ends_at table.frame column)
plane_left near steps column places table members is unread =
    let f = found near (slice_index places column) (stages_of table members) unread.unread in
    let left : unread_in near (slice_index places column) (stages_of table members) ≡ left_of (column_at table column) =
    first_unread near steps column places table members is.columns unread.column is.each f in
    let some = unread.unread in
    omega (arith, left, some)

-- one more plane of it is read
pub columns_more : (places : List ℕ) (table : KnownTable) (column : ℕ) (bits : List Bool) → TakenIsKnowledge → AreColumns places table →
    CanTake table.frame table.known column bits → AreColumns places (read_column table column bits)
columns_more places table column bits law are legal = record {
  count = are.count;
  once = are.once;
  known = record { few_rows = are.known.few_rows; knowledge = law table.frame table.known column bits are.known.knowledge legal };
}

-- ---- all members

module _ (near : Nearness) (steps column : ℕ) (places : List ℕ) (bits : List Bool) (before : KnownTable) (old new : List Member) (is : IsSession near places before old steps)
    (legal : CanTake before.frame before.known column bits)
    (handed : HandedBelow near (steps + 1) (slice_index places column) places bits (read_column before column bits) old new (length old)) where
  stood : (k : ℕ) (e : Member) → k < length old → stage_in (read_column before column bits) (get_or old k e) ≡ stage_in before (get_or old k e)
  stood k e h = same_stage near steps column places bits before (get_or old k e) is.columns legal (is.each k e h)

  -- the default of a list plays no part
  was : (k : ℕ) (d e : Member) → k < length new →
      WasHanded near (steps + 1) (slice_index places column) places bits (read_column before column bits) (get_or old k e) (get_or new k d)
  was k d e h =
      let below : k < length old = subst (λ n. k < n) handed.wide h in
      subst (WasHanded near (steps + 1) (slice_index places column) places bits (read_column before column bits) (get_or old k e))
      (get_or_any new k e d h) (handed.handed k e below)
    where
      get_or_any : {X : Type 0} (xs : List X) (k : ℕ) (a b : X) → k < length xs → get_or xs k a ≡ get_or xs k b
      get_or_any [] k a b h = absurd (omega arith)
      get_or_any (x ∷ xs) zero a b h = refl
      get_or_any (x ∷ xs) (suc k) a b h = get_or_any xs k a b (omega arith)

  stages_after : stages_of (read_column before column bits) new ≡ map (followed near (slice_index places column) bits) (stages_of before old)
  stages_after =
      maps_alike (stage_in (read_column before column bits)) (λ m. followed near (slice_index places column) bits (stage_in before m)) new old handed.wide
      (λ k d e h. (was k d e h).stage ∙ ap (followed near (slice_index places column) bits) (stood k e (subst (λ n. k < n) handed.wide h)))
      ∙ sym (map-map (followed near (slice_index places column) bits) (stage_in before) old)

  moved_after : map (λ (m : Member). m.moved == steps + 1) new ≡ map (λ (stage : Stage). is_some (awaited near (slice_index places column) stage)) (stages_of before old)
  moved_after =
      maps_alike (λ (m : Member). m.moved == steps + 1) (λ m. is_some (awaited near (slice_index places column) (stage_in before m))) new old handed.wide
      (λ k d e h.
      let below : k < length old = subst (λ n. k < n) handed.wide h in
      ap (λ n. n == steps + 1) ((was k d e h).moved ∙ ap (λ s. if is_some (awaited near (slice_index places column) s) then steps + 1 else (get_or old k e).moved) (stood k e below))
      ∙ tells (is_some (awaited near (slice_index places column) (stage_in before (get_or old k e)))) (get_or old k e).moved (is.each k e below).past)
      ∙ sym (map-map (λ (stage : Stage). is_some (awaited near (slice_index places column) stage)) (stage_in before) old)
    where
      tells : (b : Bool) (moved : ℕ) → moved ≤ steps → ((if b then steps + 1 else moved) == steps + 1) ≡ b
      tells true moved past = eq-eqb (steps + 1) (steps + 1) refl
      tells false moved past = ne_eqb moved (steps + 1) (λ same. absurd (omega arith))

  -- what the session stands for after a step
  pub session_after : session_of near places (read_column before column bits) new (steps + 1) ≡ session_stepped (session_of near places before old steps) column bits
  session_after =
      ap (λ ss. let s : Session = record { near = near; rows = before.frame.rows; columns = places; stages = ss; moved = map (λ (m : Member). m.moved == steps + 1) new; steps = steps + 1 } in s) stages_after
      ∙ ap (λ ms. let s : Session = record { near = near; rows = before.frame.rows; columns = places; stages = map (followed near (slice_index places column) bits) (stages_of before old); moved = ms; steps = steps + 1 } in s) moved_after

  all_open : (ms : List Member) → All (IsMember near steps places before) ms → All IsOpenStage (stages_of before ms)
  all_open [] each k d h = absurd (omega arith)
  all_open (m ∷ ms) each zero d h = (each 0 m (omega arith)).open_stage
  all_open (m ∷ ms) each (suc k) d h = all_open ms (λ j e i. each (suc j) e (omega arith)) k d (omega arith)

  -- what a session keeps is kept
  pub session_kept : TakenIsKnowledge → Found near (slice_index places column) (stages_of before old) → IsSession near places (read_column before column bits) new (steps + 1)
  session_kept law f = record {
    narrow = is.narrow;
    columns = columns_more places before column bits law is.columns legal;
    few_columns = is.few_columns;
    few_members = subst (λ n. n ≤ 16) (sym handed.wide) is.few_members;
    each = λ k d h. (was k d d h).kept;
    counted =
        let more = one_more_step near (slice_index places column) bits (stages_of before old) (all_open old is.each) f.number f.stage f.own f.there f.waits in
        let after = ap (λ (ss : List Stage). sum_by reads_of ss) stages_after in
        let counted = is.counted in
        omega (arith, more, after, counted);
  }

-- ---- as the session is seen

-- what is known of the columns that its queries await
pub of_awaits : (near : Nearness) (steps column : ℕ) (places : List ℕ) (table : KnownTable) (members : List Member) → IsSession near places table members steps → column < length places →
    (stage : Stage) (own : ℕ) → Awaits (session_of near places table members steps) column stage own → IsColumn table column stage own
of_awaits near steps column places table members is inside stage own awaits =
    all_columns near steps column places table members is.columns inside is.each awaits.query stage awaits.there own awaits.reads

-- ---- a member by its number

module _ (near : Nearness) (steps : ℕ) (places : List ℕ) (table : KnownTable) (members : List Member) (is : IsSession near places table members steps)
    (k : ℕ) (m : Member) (inside : k < length members) (there : m ≡ get_or members k m) where
  pub member_is : IsMember near steps places table m
  member_is = subst (IsMember near steps places table) (sym there) (is.each k m inside)

  pub stands : slice_get (stages_of table members) k ≡ Some (stage_in table m)
  stands = slice_get-map (stage_in table) members k ∙ ap (option_map (stage_in table)) (slice_get-get_or members k m inside ∙ ap Some (sym there))

  moved_is : slice_get (map (λ (n : Member). n.moved == steps) members) k ≡ Some (m.moved == steps)
  moved_is = slice_get-map (λ (n : Member). n.moved == steps) members k ∙ ap (option_map (λ (n : Member). n.moved == steps)) (slice_get-get_or members k m inside ∙ ap Some (sym there))

  -- what is known of the columns is what it took of them
  pub is_abreast_now : (s : Session) → session_of near places table members steps ≡ s →
      (slice_get s.moved k ≡ Some true) ⊎ IfSome (slice_get s.stages k) (λ stage. IsFalse (is_narrow s.near stage)) → IsAbreast table m
  is_abreast_now s view current =
      by (subst (λ (t : Session). (slice_get t.moved k ≡ Some true) ⊎ IfSome (slice_get t.stages k) (λ stage. IsFalse (is_narrow t.near stage))) (sym view) current)
    where
      by : (slice_get (map (λ (n : Member). n.moved == steps) members) k ≡ Some true) ⊎ IfSome (slice_get (stages_of table members) k) (λ stage. IsFalse (is_narrow near stage)) → IsAbreast table m
      by (inl e) = member_is.abreast (inr (eqb-true m.moved steps (same_Some (m.moved == steps) true (sym moved_is ∙ e))))
      by (inr wide) = member_is.abreast (inl (member_is.finished ∙ subst (λ o. IfSome o (λ stage. IsFalse (is_narrow near stage))) stands wide))
