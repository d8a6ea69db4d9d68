-- One node more is in its group, or has left it.
use Rattle.std.proofs.Common.{take, ◌≡◌, ◌+◌, ◌-◌, ◌<◌, ◌≤◌, ℕ, zero, suc, List, [], ◌∷◌, ◌++◌, length, length-append, Some, slice_get, slice_set, vec_capacity, refl, ap, sym, ◌∙◌, subst, inl, inr, arith}
use Rattle.std.proofs.lemmas.Bool.{cases_eq}
use Rattle.std.proofs.lemmas.List.{length-map}
use Rattle.std.proofs.lemmas.Option.{slice_get_within}
use Rattle.wire_cells.proofs.AtHome.{set_here, set_elsewhere}
use Rattle.box_step.specs.declared.nodes.cell.BoxCell.{BoxCell}
use Rattle.superstep_core.specs.declared.grouping.Grouping.{Grouping}
use Rattle.superstep_core.specs.Groups.{group_of}
use Rattle.step_turns.proofs.Lists.{last_get, front_get, take_get}
use Rattle.turn_workers.specs.declared.cells.Group.{Group}
use Rattle.turn_workers.specs.Members.{members_from, numbers_of}
use Rattle.turn_workers.specs.inner.Gathered.{AreGathered, AreScattered, IsFrom, IsFrontOf, IsGathered}
use Rattle.turn_workers.proofs.Members.{no_member, one_member, one_more}

numbers_more : (xs : List BoxCell) (c : BoxCell) → numbers_of (xs ++ c ∷ []) ≡ numbers_of xs ++ c.number ∷ []
numbers_more [] c = refl
numbers_more (x ∷ xs) c = ap (λ ns. x.number ∷ ns) (numbers_more xs c)

take_all_front : {X : Type 0} (xs ys : List X) → take (length xs) (xs ++ ys) ≡ xs
take_all_front [] ys = refl
take_all_front (x ∷ xs) ys = ap (λ zs. x ∷ zs) (take_all_front xs ys)

take_of_take : {X : Type 0} (k m : ℕ) (xs : List X) → k ≤ m → take k (take m xs) ≡ take k xs
take_of_take zero m xs low = refl
take_of_take (suc k) zero xs low = absurd (omega (arith, low))
take_of_take (suc k) (suc m) [] low = refl
take_of_take (suc k) (suc m) (x ∷ xs) low = ap (λ zs. x ∷ zs) (take_of_take k m xs (omega (arith, low)))

-- the first elements of a list without the last one of them
pub front_of_take : {X : Type 0} (k m : ℕ) (all xs : List X) (x : X) → take m all ≡ xs ++ x ∷ [] → length xs ≡ k → m ≡ k + 1 → xs ≡ take k all
front_of_take k m all xs x is long next =
    sym (take_all_front xs (x ∷ [])) ∙ ap (λ n. take n (xs ++ x ∷ [])) long ∙ ap (take k) (sym is) ∙ take_of_take k m all (omega (arith, next))

-- and that one
pub last_of_take : {X : Type 0} (k m : ℕ) (all xs : List X) (x : X) → take m all ≡ xs ++ x ∷ [] → length xs ≡ k → m ≡ k + 1 → slice_get all k ≡ Some x
last_of_take k m all xs x is long next =
    sym (take_get m all k (omega (arith, next))) ∙ ap (λ zs. slice_get zs k) is ∙ ap (slice_get (xs ++ x ∷ [])) (sym long) ∙ last_get xs x

-- lists with one element more are the same where the lists and the elements are
front_same : (xs ys : List ℕ) (x y : ℕ) → xs ++ x ∷ [] ≡ ys ++ y ∷ [] → (xs ≡ ys) × (x ≡ y)
front_same [] [] x y e = (refl, (let it : x ≡ y = cc in it))
front_same [] (b ∷ ys) x y e = absurd (let l = ap length e in let m = length-append ys (y ∷ []) in omega (arith, l, m))
front_same (a ∷ xs) [] x y e = absurd (let l = ap length e in let m = length-append xs (x ∷ []) in omega (arith, l, m))
front_same (a ∷ xs) (b ∷ ys) x y e =
    let first : a ≡ b = cc in
    let rest : xs ++ x ∷ [] ≡ ys ++ y ∷ [] = cc in
    let it = front_same xs ys x y rest in
    ((λ i. first i ∷ it.0 i), it.1)

module _ (g : Grouping) (nodes wires : ℕ) where
  -- the members from a number on, where the node of that number is one, and where it isn't
  more_members : (i from m : ℕ) → m ≡ from + 1 → from < nodes → group_of g from ≡ i
      → members_from g i from (nodes - from) ≡ members_from g i m (nodes - m) ++ from ∷ []
  more_members i from m next less mine =
      let e : nodes - from ≡ suc (nodes - suc from) = omega (arith, less) in
      let s : suc from ≡ m = omega (arith, next) in
      ap (members_from g i from) e ∙ one_member g i from (nodes - suc from) mine ∙ ap (λ k. members_from g i k (nodes - k) ++ from ∷ []) s

  same_members : (i from m : ℕ) → m ≡ from + 1 → from < nodes → (group_of g from ≡ i → ⊥)
      → members_from g i from (nodes - from) ≡ members_from g i m (nodes - m)
  same_members i from m next less other =
      let e : nodes - from ≡ suc (nodes - suc from) = omega (arith, less) in
      let s : suc from ≡ m = omega (arith, next) in
      ap (members_from g i from) e ∙ no_member g i from (nodes - suc from) other ∙ ap (λ k. members_from g i k (nodes - k)) s

  -- the members from a number on are no more than all
  fewer : (i from : ℕ) → from ≤ nodes → length (members_from g i from (nodes - from)) ≤ length (members_from g i 0 nodes)
  fewer i zero low = (let same : nodes - 0 ≡ nodes = omega arith in let e = ap (λ k. length (members_from g i 0 k)) same in omega (arith, e))
  fewer i (suc from) low =
      let before = fewer i from (omega (arith, low)) in
      let next : suc from ≡ from + 1 = omega arith in
      elim (cases_eq (group_of g from) i) [
        | inl mine ↦ (let same = ap length (more_members i from (suc from) next (omega (arith, low)) mine) in
            let more = length-append (members_from g i (suc from) (nodes - suc from)) (from ∷ []) in omega (arith, before, same, more))
        | inr other ↦ (let same = ap length (same_members i from (suc from) next (omega (arith, low)) other) in omega (arith, before, same))
      ]

  -- there is room for one member more
  pub room_left : (i from m : ℕ) (cells : List BoxCell) (group : Group) → m ≡ from + 1 → from < nodes → group_of g from ≡ i
      → IsGathered g nodes wires m i cells group → length group.members.items < vec_capacity group.members
  room_left i from m cells group next less mine is =
      let all = fewer i from (omega (arith, less)) in
      let same = ap length (more_members i from m next less mine) in
      let more = length-append (members_from g i m (nodes - m)) (from ∷ []) in
      let now = ap length is.numbers in
      let long = length-map group.members.items (λ (c : BoxCell). c.number) in
      let room = is.room in
      omega (arith, all, same, more, now, long, room)

  module _ (cells : List BoxCell) (groups : List Group) (from m i : ℕ) (next : m ≡ from + 1) (less : from < nodes) (mine : group_of g from ≡ i)
      (group new : Group) (there : slice_get groups i ≡ Some group) where
    here_is : (other : Group) → slice_get (slice_set groups i new) i ≡ Some other → new ≡ other
    here_is other found = (let both : Some new ≡ Some other = sym (set_here groups i new (slice_get_within groups i group there)) ∙ found in cc)

    pub one_gathered : AreGathered g nodes wires m cells groups → (cell : BoxCell) → slice_get cells from ≡ Some cell → cell.number ≡ from
        → new.members.items ≡ group.members.items ++ cell ∷ [] → vec_capacity new.members ≡ vec_capacity group.members
        → new.number ≡ group.number → new.time ≡ group.time → new.home ≡ group.home
        → AreGathered g nodes wires from cells (slice_set groups i new)
    one_gathered are cell at number members capacity keeps_number keeps_time keeps_home = record {
      each = λ j other found. elim (cases_eq j i) [
        | inl same ↦ subst (λ (q : ℕ × Group). IsGathered g nodes wires from q.0 cells q.1)
            (λ p. (sym same p, here_is other (ap (slice_get (slice_set groups i new)) (sym same) ∙ found) p)) here
        | inr apart ↦ (
            let was = are.each j other (sym (set_elsewhere groups i j new (λ e. apart (sym e))) ∙ found) in
            record {
              numbers = was.numbers ∙ sym (same_members j from m next less (λ e. apart (sym e ∙ mine)));
              of = was.of;
              room = was.room;
              is = was.is;
              begun = was.begun;
              long = was.long;
              bare = was.bare;
            })
      ];
    }
      where
        here : IsGathered g nodes wires from i cells new
        here = let was = are.each i group there in record {
          numbers = ap numbers_of members ∙ numbers_more group.members.items cell ∙ (λ p. was.numbers p ++ number p ∷ [])
              ∙ sym (more_members i from m next less mine);
          of = λ k c found. elim (one_more group.members.items cell k c (ap (λ xs. slice_get xs k) (sym members) ∙ found)) [
            | inl before ↦ was.of k c before
            | inr last ↦ subst (λ (x : BoxCell). slice_get cells x.number ≡ Some x) last.1 (ap (slice_get cells) number ∙ at)
          ];
          room = (let room = was.room in omega (arith, room, capacity));
          is = keeps_number ∙ was.is;
          begun = keeps_time ∙ was.begun;
          long = ap (λ h. length h.items) keeps_home ∙ was.long;
          bare = λ w c found. was.bare w c (ap (λ h. slice_get h.items w) (sym keeps_home) ∙ found);
        }

    -- the last member is the node of the number, and the others are those from the next number on
    pub last_member : (rest : List BoxCell) (cell : BoxCell) → numbers_of group.members.items ≡ members_from g i from (nodes - from)
        → group.members.items ≡ rest ++ cell ∷ [] → (numbers_of rest ≡ members_from g i m (nodes - m)) × (cell.number ≡ from)
    last_member rest cell numbers is =
        front_same (numbers_of rest) (members_from g i m (nodes - m)) cell.number from
        (sym (numbers_more rest cell) ∙ ap numbers_of (sym is) ∙ numbers ∙ more_members i from m next less mine)

    pub some_member : numbers_of group.members.items ≡ members_from g i from (nodes - from) → 0 < length group.members.items
    some_member numbers =
        let now = ap length numbers in
        let same = ap length (more_members i from m next less mine) in
        let more = length-append (members_from g i m (nodes - m)) (from ∷ []) in
        let long = length-map group.members.items (λ (c : BoxCell). c.number) in
        omega (arith, now, same, more, long)

    pub others_left : ((j : ℕ) (other : Group) → slice_get groups j ≡ Some other → numbers_of other.members.items ≡ members_from g j from (nodes - from))
        → numbers_of new.members.items ≡ members_from g i m (nodes - m)
        → (j : ℕ) (other : Group) → slice_get (slice_set groups i new) j ≡ Some other → numbers_of other.members.items ≡ members_from g j m (nodes - m)
    others_left all now j other found = elim (cases_eq j i) [
      | inl same ↦ subst (λ (q : ℕ × Group). numbers_of q.1.members.items ≡ members_from g q.0 m (nodes - m))
          (λ p. (sym same p, here_is other (ap (slice_get (slice_set groups i new)) (sym same) ∙ found) p)) now
      | inr apart ↦ all j other (sym (set_elsewhere groups i j new (λ e. apart (sym e))) ∙ found)
          ∙ same_members j from m next less (λ e. apart (sym e ∙ mine))
    ]

    -- all groups are what is left of those before
    pub fronts_left : (before : List Group) → ((j : ℕ) (other : Group) → slice_get groups j ≡ Some other
        → (was : Group) × (slice_get before j ≡ Some was) × IsFrontOf other was)
        → ((was : Group) → IsFrontOf group was → IsFrontOf new was)
        → (j : ℕ) (other : Group) → slice_get (slice_set groups i new) j ≡ Some other → (was : Group) × (slice_get before j ≡ Some was) × IsFrontOf other was
    fronts_left before all shorter j other found = elim (cases_eq j i) [
      | inl same ↦ (
          let was = all i group there in (
            was.0,
            ap (slice_get before) same ∙ was.1,
            subst (λ (x : Group). IsFrontOf x was.0)
                (here_is other (ap (slice_get (slice_set groups i new)) (sym same) ∙ found)) (shorter was.0 was.2),
          ))
      | inr apart ↦ all j other (sym (set_elsewhere groups i j new (λ e. apart (sym e))) ∙ found)
    ]

-- a group without its last member
pub one_shorter : (group new was : Group) (cell : BoxCell) → group.members.items ≡ new.members.items ++ cell ∷ [] → new.number ≡ group.number
    → new.time ≡ group.time → new.home ≡ group.home → IsFrontOf group was → IsFrontOf new was
one_shorter group new was cell members number time home front = record {
  members = λ k c at. front.members k c (ap (λ xs. slice_get xs k) members
      ∙ front_get new.members.items (cell ∷ []) k (slice_get_within new.members.items k c at) ∙ at);
  number = number ∙ front.number;
  time = time ∙ front.time;
  home = home ∙ front.home;
}

-- one cell more came back
pub one_scattered : (g : Grouping) (groups : List Group) (n : ℕ) (cells : List BoxCell) (cell : BoxCell) → AreScattered g groups n cells
    → IsFrom g groups n cell → AreScattered g groups (n + 1) (cells ++ cell ∷ [])
one_scattered g groups n cells cell so_far is = record {
  long = (let long = so_far.long in let more = length-append cells (cell ∷ []) in omega (arith, long, more));
  each = λ k c at. elim (one_more cells cell k c at) [
    | inl before ↦ so_far.each k c before
    | inr last ↦ subst (λ (q : ℕ × BoxCell). IsFrom g groups q.0 q.1) (λ p. (sym (last.0 ∙ so_far.long) p, last.1 p)) is
  ];
}
