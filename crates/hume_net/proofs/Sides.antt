-- A side of which one more wire is seen.
use Rattle.std.proofs.Common.{◌≡◌, ℕ, suc, ◌<◌, ◌≤◌, Bool, false, true, if◌then◌else◌, List, [], ◌∷◌, ◌++◌, drop, length, Option, None, refl, ap, sym, ◌∙◌, drop-cons, slice_get}
use Rattle.std.proofs.lemmas.Grind.{common_steps}
use Rattle.std.proofs.lemmas.List.{drop_all, append-nil}
use Rattle.std.specs.Option.{unwrap_or, option_flatten, option_to_list}
use Rattle.hume_base.specs.declared.types.Value.{Value}
use Rattle.hume_net.specs.HalfSteps.{oldest, without_oldest, without_taken, with_asserted, have_room}

pub oldest-is : (wire : List Value) → oldest wire ≡ slice_get wire 0
oldest-is [] = refl
oldest-is (first ∷ later) = refl

pub without_taken-length : (taken : List Bool) (wires : List (List Value)) → length (without_taken taken wires) ≡ length wires
without_taken-length taken [] = refl
without_taken-length [] (wire ∷ wires) = refl
without_taken-length (t ∷ taken) (wire ∷ wires) = ap suc (without_taken-length taken wires)

without_taken-none : (wires : List (List Value)) → without_taken [] wires ≡ wires
without_taken-none [] = refl
without_taken-none (wire ∷ wires) = refl

taken-at : (taken : List Bool) (wires : List (List Value)) (wire : List Value)
    → without_taken taken (wires ++ wire ∷ []) ≡ without_taken taken wires ++ (if unwrap_or (slice_get taken (length wires)) false then without_oldest wire else wire) ∷ []
taken-at [] wires wire = without_taken-none (wires ++ wire ∷ []) ∙ ap (λ side. side ++ wire ∷ []) (sym (without_taken-none wires))
taken-at (t ∷ taken) [] wire = refl
taken-at (t ∷ taken) (first ∷ wires) wire = ap (λ side. (if t then without_oldest first else first) ∷ side) (taken-at taken wires wire)

pub without_taken-more : (taken : List Bool) (wires : List (List Value)) (wire : List Value)
    → without_taken taken (wires ++ wire ∷ []) ≡ without_taken taken wires ++ (if unwrap_or (slice_get taken (length (without_taken taken wires))) false then without_oldest wire else wire) ∷ []
without_taken-more taken wires wire = rw (without_taken-length taken wires) (taken-at taken wires wire)

pub with_asserted-length : (values : List (Option Value)) (wires : List (List Value)) → length (with_asserted values wires) ≡ length wires
with_asserted-length values [] = refl
with_asserted-length [] (wire ∷ wires) = refl
with_asserted-length (value ∷ values) (wire ∷ wires) = ap suc (with_asserted-length values wires)

with_asserted-none : (wires : List (List Value)) → with_asserted [] wires ≡ wires
with_asserted-none [] = refl
with_asserted-none (wire ∷ wires) = refl

asserted-at : (values : List (Option Value)) (wires : List (List Value)) (wire : List Value)
    → with_asserted values (wires ++ wire ∷ []) ≡ with_asserted values wires ++ (wire ++ option_to_list (option_flatten (slice_get values (length wires)))) ∷ []
asserted-at [] wires wire =
    with_asserted-none (wires ++ wire ∷ [])
    ∙ ap (λ side. side ++ wire ∷ []) (sym (with_asserted-none wires))
    ∙ ap (λ last. with_asserted [] wires ++ last ∷ []) (sym (append-nil wire))
asserted-at (value ∷ values) [] wire = refl
asserted-at (value ∷ values) (first ∷ wires) wire = ap (λ side. (first ++ option_to_list value) ∷ side) (asserted-at values wires wire)

pub with_asserted-more : (values : List (Option Value)) (wires : List (List Value)) (wire : List Value)
    → with_asserted values (wires ++ wire ∷ [])
    ≡ with_asserted values wires ++ (wire ++ option_to_list (option_flatten (slice_get values (length (with_asserted values wires))))) ∷ []
with_asserted-more values wires wire = rw (with_asserted-length values wires) (asserted-at values wires wire)

pub have_room-short : (values : List (Option Value)) (rooms : List Bool) (i : ℕ) → i < length values → length rooms ≤ i → have_room (drop i values) (drop i rooms) ≡ true
have_room-short values rooms i within short = rw (drop-cons values i None, drop_all i rooms short) refl

pub ruleset side_steps = (common_steps, oldest-is, without_taken-more, with_asserted-more, have_room-short)
