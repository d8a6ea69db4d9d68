-- Items and programs with more room.
use Rattle.std.proofs.Common.{ℕ, zero, suc, ◌+◌, ◌<◌, ◌≤◌, List, [], ◌∷◌, length, refl, sym, subst, arith}
use Rattle.std.specs.Prelude.{Result, Ok}
use Rattle.hume_base.specs.declared.symbol.Symbol.TheVariants as symbol
use Rattle.hume_base.specs.declared.token.Kind.{Kind}
use Rattle.parse_readers.specs.inner.Readers.{Wrong, Reader, ◌>>=◌, made, pick, is_sign, lower_name}
use Rattle.parse_readers.specs.inner.Expressions.{is_lower}
use Rattle.parse_readers.specs.inner.Declarations.{whole_decl, signature, equation}
use Rattle.parse_readers.specs.inner.Items.{Item, Whole, Signature, Expecting, Outside, Wanting, Within, expecting_after, signature_item, equation_of, equation_item, behind_name, named_item, any_item, item, no_items, items}
use Rattle.parse_readers.specs.inner.Programs.{grouped, program}
use Rattle.parse_readers.proofs.Local.{Local, local_bind, local_give}
use Rattle.parse_readers.proofs.ItemsRead.{behind_local, item_shrinks}
use Rattle.parse_readers.proofs.AllItemsRead.{items_end, items_turn, items_read}
use Rattle.parse_readers.proofs.Grows.{Same, Grows, same_after, same_bind, grows_bind, grows_give, grows_pick, grows_choice, grows_made}
use Rattle.parse_readers.proofs.DeclarationsGrow.{whole_decl_grows, signature_grows, equation_grows}

module _ (bound bound2 : ℕ) (some : 0 < bound) (more : bound + 2 ≤ bound2) where
  signature_item_grows : (name : List ℕ) → Grows (signature_item bound name) (signature_item bound2 name)
  signature_item_grows name = grows_made (Signature name) (signature bound) (signature bound2) (signature_grows bound bound2 some more)

  equation_item_grows : (name : List ℕ) → Grows (equation_item bound name) (equation_item bound2 name)
  equation_item_grows name = grows_made (equation_of name) (equation bound) (equation bound2) (equation_grows bound bound2 some more)

  behind_grows : (expecting : Expecting) (name : List ℕ) → Grows (behind_name bound expecting name) (behind_name bound2 expecting name)
  behind_grows Outside name = signature_item_grows name
  behind_grows Wanting name = equation_item_grows name
  behind_grows Within name = grows_choice (is_sign symbol.DoubleColon) (signature_item bound name) (equation_item bound name) (signature_item bound2 name) (equation_item bound2 name) (signature_item_grows name) (equation_item_grows name)

  named_grows : (expecting : Expecting) → Grows (named_item bound expecting) (named_item bound2 expecting)
  named_grows expecting = grows_bind (behind_name bound2 expecting) (behind_local bound2 expecting) (pick lower_name) (pick lower_name) (grows_pick lower_name) (behind_name bound expecting) (behind_grows expecting)

  any_grows : (expecting : Expecting) → Grows (any_item bound expecting) (any_item bound2 expecting)
  any_grows expecting = grows_choice is_lower (named_item bound expecting) (made Whole (whole_decl bound)) (named_item bound2 expecting) (made Whole (whole_decl bound2)) (named_grows expecting)
      (grows_made Whole (whole_decl bound) (whole_decl bound2) (whole_decl_grows bound bound2 some more))

  item_grows : (expecting : Expecting) → Grows (item bound expecting) (item bound2 expecting)
  item_grows Outside = any_grows Outside
  item_grows Wanting = named_grows Wanting
  item_grows Within = any_grows Within

  over_same : (expecting : Expecting) → Same (no_items expecting []) (no_items expecting [])
  over_same Outside = refl
  over_same Wanting = refl
  over_same Within = refl

  -- the items behind one
  abbrev others : ℕ → Expecting → Item → Reader (List Item)
  others b expecting first ts = items b (expecting_after first) ts >>= λ more. Ok (first ∷ more.0, more.1)

  others_local : (expecting : Expecting) (first : Item) → Local (others bound2 expecting first)
  others_local expecting first = local_bind (items bound2 (expecting_after first)) (λ more ts. Ok (first ∷ more, ts)) (items_read bound2 (expecting_after first)).local (λ more. local_give (first ∷ more))

  abbrev turned : ℕ → Expecting → List Kind → Result (List Item × List Kind) Wrong
  turned b expecting ks = item b expecting ks >>= λ x. others b expecting x.0 x.1

  turn_grows : (expecting : Expecting) (ks : List Kind) → ((next : Expecting) (ls : List Kind) → length ls < length ks → Same (items bound next ls) (items bound2 next ls)) → Same (turned bound expecting ks) (turned bound2 expecting ks)
  turn_grows expecting ks later = same_after (others bound2 expecting) (others_local expecting) (others bound expecting) (item bound expecting ks) (item bound2 expecting ks) (item_grows expecting ks)
      (λ x is. same_bind (λ more ts. Ok (x.0 ∷ more, ts)) (λ more. local_give (x.0 ∷ more)) (λ more ts. Ok (x.0 ∷ more, ts)) (λ more. grows_give (x.0 ∷ more)) (items bound (expecting_after x.0) x.1) (items bound2 (expecting_after x.0) x.1)
      (later (expecting_after x.0) x.1 (item_shrinks bound expecting ks x is)))

  items_by_grow : (most : ℕ) (expecting : Expecting) (ks : List Kind) → length ks ≤ most → Same (items bound expecting ks) (items bound2 expecting ks)
  items_by_grow most expecting [] l = subst (λ r. Same r (items bound2 expecting [])) (sym (items_end bound expecting)) (subst (λ r. Same (no_items expecting []) r) (sym (items_end bound2 expecting)) (over_same expecting))
  items_by_grow zero expecting (k ∷ ks) l = absurd (omega arith)
  items_by_grow (suc most) expecting (k ∷ ks) l =
      subst (λ r. Same r (items bound2 expecting (k ∷ ks))) (sym (items_turn bound expecting (k ∷ ks) (omega arith)))
      (subst (λ r. Same (turned bound expecting (k ∷ ks)) r) (sym (items_turn bound2 expecting (k ∷ ks) (omega arith)))
      (turn_grows expecting (k ∷ ks) (λ next ls less. items_by_grow most next ls (omega (arith, less, l)))))

  pub items_grow : (expecting : Expecting) → Grows (items bound expecting) (items bound2 expecting)
  items_grow expecting ks = items_by_grow (length ks) expecting ks (omega arith)

  pub program_grows : Grows (program bound) (program bound2)
  program_grows = grows_made grouped (items bound Outside) (items bound2 Outside) (items_grow Outside)
