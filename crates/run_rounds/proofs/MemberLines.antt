-- Lines that are told program by program.
use Rattle.std.proofs.Common.{◌≡◌, ℕ, ◌+◌, ◌≤◌, List, [], ◌∷◌, length, map, Result, Ok, Err, refl, ap, sym, ◌∙◌, subst, arith}
use Rattle.std.proofs.lemmas.List.Sums.{sum_by-cons}
use Rattle.hume_ports.specs.declared.port.Failed.{Failed}
use Rattle.hume_ports.specs.Port.{PortView}
use Rattle.port_acts.specs.Acts.{write_each}
use Rattle.port_acts.specs.Ends.{Ends, Fails, Made, never}
use Rattle.run_rounds.specs.declared.members.Member.{Member}
use Rattle.run_rounds.specs.Members.{MemberView, member_lines, nodes_of, one_member, view_of, views}
use Rattle.run_rounds.specs.Writes.{told}
use Rattle.run_rounds.proofs.Tellings.{lines_failed, lines_then, untold}

-- the nodes of one program more
pub nodes_more : (member : MemberView) (later : List MemberView) → nodes_of (member ∷ later) ≡ member.nodes + nodes_of later
nodes_more member later = sum_by-cons (λ n. n) member.nodes (map (λ (m : MemberView). m.nodes) later)

module _ (members : List Member) (member : Member) (later : List Member) (first total : ℕ) (are : members ≡ member ∷ later)
    (within : first + nodes_of (views members) ≤ total) where
  all_nodes : nodes_of (views members) ≡ member.nodes + nodes_of (views later)
  all_nodes = ap (λ ms. nodes_of (views ms)) are ∙ nodes_more (view_of member) (views later)

  pub here_within : first + member.nodes ≤ total
  here_within = let all = all_nodes in omega (arith, within, all)

  pub later_within : (first + member.nodes) + nodes_of (views later) ≤ total
  later_within = let all = all_nodes in omega (arith, within, all)

module _ (of : ℕ → List (List ℕ)) (first : ℕ) (members : List Member) where
  abbrev Lines : List Member → List (List ℕ)
  Lines ms = member_lines of first (views ms)

  none_there : (ms : List Member) → length ms ≡ 0 → ms ≡ []
  none_there [] none = refl
  none_there (m ∷ ms) none = absurd (omega (arith, none))

  pub members_none : (ports : List PortView) → length members ≡ 0 → Made (write_each (told (Lines members))) [] ports ports
  members_none ports none = untold (Lines members) ports (ap Lines (none_there members none))

  module _ (member : Member) (later : List Member) (are : members ≡ member ∷ later) where
    abbrev own : List (List ℕ)
    own = one_member of first (view_of member)

    pub member_failed : (olds news : List PortView) (result : Result (Unit {0}) Failed) (failed : Failed) → result ≡ Err failed
        → Ends never [] (write_each (told own)) [] olds news result → Fails never [] (write_each (told (Lines members))) olds news
    member_failed olds news result failed is ends =
        subst (λ ms. Fails never [] (write_each (told (Lines ms))) olds news) (sym are)
        (lines_failed own (member_lines of (first + member.nodes) (views later)) olds news result failed is ends)

    pub member_then : (olds mids news : List PortView) (done result : Result (Unit {0}) Failed) → done ≡ Ok tt
        → Ends never [] (write_each (told own)) [] olds mids done
        → Ends never [] (write_each (told (member_lines of (first + member.nodes) (views later)))) [] mids news result
        → Ends never [] (write_each (told (Lines members))) [] olds news result
    member_then olds mids news done result is made ends =
        subst (λ ms. Ends never [] (write_each (told (Lines ms))) [] olds news result) (sym are)
        (lines_then own (member_lines of (first + member.nodes) (views later)) olds mids news done result is made ends)
