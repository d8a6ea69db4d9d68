-- Texts that ports may have.
use Rattle.std.proofs.Common.{◌≡◌, ℕ, zero, suc, Bool, true, false, List, [], ◌∷◌, ◌++◌, map, refl, ap, sym, ◌∙◌, subst, append-nil, Option, None, Some, if◌then◌else◌}
use Rattle.std.specs.Prelude.{IfSome, slice_get}
use Rattle.std.specs.List.{remove}
use Rattle.std.specs.Option.{unwrap_or}
use Rattle.std.specs.Str.{bytes_eq}
use Rattle.std.specs.Io.KnownBytes.{Consumes}
use Rattle.std.proofs.lemmas.List.{append_cancel_left}
use Rattle.hume_ports.specs.Port.{PortView}
use Rattle.hume_ports.specs.Ports.{names, left_of, place_of}
use Rattle.hume_ports.specs.Delivery.{Pairs, bytes_for}
use Rattle.hume_ports.proofs.Names.{bytes_eq-self, place-suc, place-zero, same_name}
use Rattle.hume_console.specs.Headline.{AreOffers}
use Rattle.hume_console.specs.Session.{Offer, names_of, text_of}
use Rattle.hume_console.proofs.PortsLeft.{differ_eq}

pub offers_named : (ports : List PortView) (offers : List Offer) → AreOffers ports offers → names_of offers ≡ names ports
offers_named [] [] are = refl
offers_named [] (offer ∷ offers) are = absurd are
offers_named (port ∷ ports) [] are = absurd are
offers_named (port ∷ ports) (offer ∷ offers) are =
    ap (λ (name : List ℕ). name ∷ names_of offers) (sym are.0.0) ∙ ap (λ (ns : List (List ℕ)). port.name ∷ ns) (offers_named ports offers are.1)

-- texts that are chosen once all is read

-- what each port told at first, or else what was read of it
abbrev pub offers_read : Pairs → List PortView → List Offer
offers_read taken ports = map (λ port. record { name = port.name; text = unwrap_or port.left (bytes_for port.name taken) }) ports

told_self : (left : Option (List ℕ)) (bytes : List ℕ) → IfSome left (λ known. unwrap_or left bytes ≡ known)
told_self None bytes = tt
told_self (Some known) bytes = refl

pub are_read : (taken : Pairs) (ports : List PortView) → AreOffers ports (offers_read taken ports)
are_read taken [] = tt
are_read taken (port ∷ ports) = ((refl, told_self port.left (bytes_for port.name taken)), are_read taken ports)

pub text_read : (taken : Pairs) (ports : List PortView) (name : List ℕ) (at : ℕ) → place_of name (names ports) ≡ Some at
    → text_of name (offers_read taken ports) ≡ unwrap_or (left_of name ports) (bytes_for name taken)
text_read taken [] name at e = cc
text_read taken (port ∷ ports) name zero e =
    let here = place-zero (bytes_eq port.name name) (place_of name (names ports)) e in
    rw here (ap (λ n. unwrap_or port.left (bytes_for n taken)) (same_name port.name name here))
text_read taken (port ∷ ports) name (suc at) e =
    let behind = place-suc (bytes_eq port.name name) (place_of name (names ports)) at e in
    rw behind.0 (text_read taken ports name at behind.1)

no_more : (all bytes left : List ℕ) → all ≡ bytes ++ left → all ≡ bytes → left ≡ []
no_more all bytes left consumes same = append_cancel_left bytes left [] (sym consumes ∙ same ∙ sym (append-nil bytes))

-- the text of a port is what was read of it, and a rest
pub text_rest : (before after : Option (List ℕ)) (bytes : List ℕ) (ended : Bool) → Consumes before after bytes
    → (ended ≡ true → IfSome before (λ left. left ≡ bytes))
    → (rest : List ℕ) × (ended ≡ true → rest ≡ []) × (unwrap_or before bytes ≡ bytes ++ rest)
text_rest None after bytes ended consumes at_end = ([], (λ e. refl), sym (append-nil bytes))
text_rest (Some all) None bytes ended consumes at_end = absurd consumes
text_rest (Some all) (Some left) bytes ended consumes at_end = (left, (λ e. no_more all bytes left consumes (at_end e)), consumes)

-- a port comes back

-- the list with one more at the place
abbrev pub put_at : {X : Type 0} → ℕ → X → List X → List X
put_at zero x xs = x ∷ xs
put_at (suc at) x [] = x ∷ []
put_at (suc at) x (first ∷ xs) = first ∷ put_at at x xs

pub offers_put : (ports : List PortView) (offers : List Offer) (at : ℕ) (port : PortView) (offer : Offer) → slice_get ports at ≡ Some port
    → port.name ≡ offer.name → IfSome port.left (λ left. offer.text ≡ left) → AreOffers (remove ports at) offers → AreOffers ports (put_at at offer offers)
offers_put [] offers at port offer there name told are = cc
offers_put (first ∷ ports) offers zero port offer there name told are =
    let same : first ≡ port = cc in
    (subst (λ (p : PortView). (p.name ≡ offer.name) × IfSome p.left (λ left. offer.text ≡ left)) (sym same) (name, told), are)
offers_put (first ∷ ports) [] (suc at) port offer there name told are = absurd are
offers_put (first ∷ ports) (one ∷ offers) (suc at) port offer there name told are = (are.0, offers_put ports offers at port offer there name told are.1)

pub put_removed : (ports : List PortView) (offers : List Offer) (at : ℕ) (port : PortView) (offer : Offer) → slice_get ports at ≡ Some port
    → AreOffers (remove ports at) offers → remove (put_at at offer offers) at ≡ offers
put_removed [] offers at port offer there are = cc
put_removed (first ∷ ports) offers zero port offer there are = refl
put_removed (first ∷ ports) [] (suc at) port offer there are = absurd are
put_removed (first ∷ ports) (one ∷ offers) (suc at) port offer there are = ap (λ (later : List Offer). one ∷ later) (put_removed ports offers at port offer there are.1)

-- another name has the text that it has among the others
pub other_text : (ports : List PortView) (offers : List Offer) (at : ℕ) (offer : Offer) (name : List ℕ) → AreOffers (remove ports at) offers
    → (name ≡ offer.name → ⊥) → text_of name (put_at at offer offers) ≡ text_of name offers
other_text ports offers zero offer name are differ =
    ap (λ b. if b then offer.text else text_of name offers) (differ_eq offer.name name (λ same. differ (sym same)))
other_text ports [] (suc at) offer name are differ = ap (λ b. if b then offer.text else []) (differ_eq offer.name name (λ same. differ (sym same)))
other_text [] (one ∷ offers) (suc at) offer name are differ = absurd are
other_text (first ∷ ports) (one ∷ offers) (suc at) offer name are differ =
    ap (λ (text : List ℕ). if bytes_eq one.name name then one.text else text) (other_text ports offers at offer name are.1 differ)

-- and the port's own name has its text
pub own_text : (ports : List PortView) (offers : List Offer) (at : ℕ) (offer : Offer) → place_of offer.name (names ports) ≡ Some at
    → AreOffers (remove ports at) offers → text_of offer.name (put_at at offer offers) ≡ offer.text
own_text [] offers at offer e are = cc
own_text (first ∷ ports) offers zero offer e are =
    ap (λ b. if b then offer.text else text_of offer.name offers) (bytes_eq-self offer.name)
own_text (first ∷ ports) [] (suc at) offer e are = absurd are
own_text (first ∷ ports) (one ∷ offers) (suc at) offer e are =
    let behind = place-suc (bytes_eq first.name offer.name) (place_of offer.name (names ports)) at e in
    let isnt : bytes_eq one.name offer.name ≡ false = ap (λ n. bytes_eq n offer.name) (sym are.0.0) ∙ behind.0 in
    ap (λ b. if b then one.text else text_of offer.name (put_at at offer offers)) isnt ∙ own_text ports offers at offer behind.1 are.1
