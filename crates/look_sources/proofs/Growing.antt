-- What is put on a page one after the other.
use Rattle.std.proofs.Common.{◌≡◌, ℕ, Bool, List, [], ◌++◌, refl, sym, ◌∙◌, ap, append_assoc, append-nil, true, false}
use Rattle.look_sources.specs.declared.page.Page.{Page}
use Rattle.look_sources.specs.Pages.{Appends, Grows, is_lost, on}

true_is_not_false : {b : Bool} → b ≡ true → b ≡ false → ⊥
true_is_not_false is other = cc

pub appends_none : (page : Page) → Appends page page []
appends_none page = record { whole = λ _. sym (append-nil (on page)); earlier = λ h. h }

pub appends_more : {first second third : Page} {bytes more : List ℕ} → Appends second third more → Appends first second bytes
    → Appends first third (bytes ++ more)
appends_more {first} {second} {third} {bytes} {more} later sooner = record {
  whole = λ h. later.whole h ∙ (ap (λ (front : List ℕ). front ++ more) (sooner.whole (later.earlier h)) ∙ append_assoc (on first) bytes more);
  earlier = λ h. sooner.earlier (later.earlier h);
}

pub grows_none : (page : Page) → Grows page page
grows_none page = record { rest = []; appends = appends_none page }

pub grows_by : {first second third : Page} {more : List ℕ} → Appends second third more → Grows first second → Grows first third
grows_by later sooner = record { rest = sooner.rest ++ _; appends = appends_more later sooner.appends }

pub grows_more : {first second third : Page} → Grows second third → Grows first second → Grows first third
grows_more later sooner = grows_by later.appends sooner

pub grows_lost : {first second : Page} → is_lost second ≡ true → Grows first second
grows_lost lost = record { rest = []; appends = record { whole = λ h. absurd (true_is_not_false lost h); earlier = λ h. absurd (true_is_not_false lost h) } }

-- a page goes on growing
pub ruleset growing = (grows_none, grows_by, grows_more, grows_lost)
