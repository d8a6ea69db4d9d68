-- How a call ends whose course begins with acts.
use Rattle.std.proofs.Common.{◌≡◌, List, [], ◌++◌, ap, sym, ◌∙◌, subst, refl, inl, inr, append_assoc}
use Rattle.hume_ports.specs.Delivery.{Pairs, without}
use Rattle.port_acts.specs.Acts.{Act}
use Rattle.port_acts.specs.Ends.{Few, never, Fails}
use Rattle.port_acts.proofs.Making.{Made-on}
use Rattle.port_acts.proofs.Failing.{Fails-any, Fails-on, Fails-stop}
use Rattle.hume_console.specs.Hands.{Hands}
use Rattle.hume_console.specs.Courses.{Bound, Course, ends, leaves, first_do, DoesAll, FailsIn, Goes, EndsCourse}
use Rattle.hume_console.specs.inner.Bounds.{bound_of}
use Rattle.hume_console.specs.declared.ending.Ending.{Ending}
use Rattle.hume_console.specs.declared.ending.Ending.TheVariants.{Fault}

pub bound_first : (acts : List Act) (course : Course) → bound_of (first_do acts course) ≡ bound_of course
bound_first acts (ends bound others answer) = refl
bound_first acts (leaves bound others at later) = refl

pub first_in_turn : (acts others : List Act) (course : Course) → first_do acts (first_do others course) ≡ first_do (acts ++ others) course
first_in_turn acts others (ends bound last answer) = ap (λ (all : List Act). ends bound all answer) (sym (append_assoc acts others last))
first_in_turn acts others (leaves bound last at later) = ap (λ (all : List Act). leaves bound all at later) (sym (append_assoc acts others last))

pub first_none : (course : Course) → first_do [] course ≡ course
first_none (ends bound acts answer) = refl
first_none (leaves bound acts at later) = refl

module _ (few : Bound → Few) (earlier ts : Pairs) (acts : List Act) (old mid : Hands) (does : DoesAll acts ts old mid) where
  does_more : (others : List Act) (us : Pairs) (new : Hands) → DoesAll others us mid new → DoesAll (acts ++ others) (ts ++ us) old new
  does_more others us new d = record {
    made = Made-on acts others ts us old.ports mid.ports new.ports does.made d.made;
    stay = d.stay ∙ does.stay;
  }

  fails_more : (bound : Bound) (others : List Act) (new : Hands) → FailsIn (few bound) (earlier ++ ts) others mid new → FailsIn (few bound) earlier (acts ++ others) old new
  fails_more bound others new f = record {
    fails = Fails-on (few bound) earlier ts acts others old.ports mid.ports new.ports does.made f.fails;
    stay = f.stay ∙ does.stay;
  }

  -- acts that were made come before the others
  pub made_first : (course : Course) (new : Hands) (ending : Ending) → EndsCourse few (earlier ++ ts) course mid new ending
      → EndsCourse few earlier (first_do acts course) old new ending
  made_first (ends bound others answer) new ending (inl done) = inl (done.0, ts ++ done.1, does_more others done.1 new done.2)
  made_first (ends bound others answer) new ending (inr failed) = inr (failed.0, fails_more bound others new failed.1)
  made_first (leaves bound others at later) new ending (inl gone) =
      let goes : Goes (acts ++ others) at old gone.0 = record {
        mid = gone.1.mid;
        taken = ts ++ gone.1.taken;
        does = does_more others gone.1.taken gone.1.mid gone.1.does;
        leaves = gone.1.leaves;
      } in
      inl (
        gone.0,
        goes,
        subst (λ (pairs : Pairs). EndsCourse few (without gone.1.leaves.port.name pairs) later gone.0 new ending)
            (append_assoc earlier ts gone.1.taken) gone.2,
      )
  made_first (leaves bound others at later) new ending (inr failed) = inr (failed.0, fails_more bound others new failed.1)

-- acts of which one fails end the call
pub fails_first : (few : Bound → Few) (earlier : Pairs) (acts : List Act) (course : Course) (old new : Hands)
    → FailsIn (few (bound_of course)) earlier acts old new → EndsCourse few earlier (first_do acts course) old new Fault
fails_first few earlier acts (ends bound others answer) old new f =
    inr (refl, record { fails = Fails-stop (few bound) earlier acts others old.ports new.ports f.fails; stay = f.stay })
fails_first few earlier acts (leaves bound others at later) old new f =
    inr (refl, record { fails = Fails-stop (few bound) earlier acts others old.ports new.ports f.fails; stay = f.stay })

-- acts without wants fail whatever ports streams have
pub never_first : (few : Bound → Few) (earlier : Pairs) (acts : List Act) (course : Course) (old new : Hands)
    → Fails never [] acts old.ports new.ports → new.gone ≡ old.gone → EndsCourse few earlier (first_do acts course) old new Fault
never_first few earlier acts course old new f stay =
    fails_first few earlier acts course old new (record { fails = Fails-any (few (bound_of course)) earlier acts old.ports new.ports f; stay = stay })
