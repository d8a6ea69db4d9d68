-- Each text is accepted or breaks a rule.
use Rattle.std.proofs.Common.{ℕ, ◌≤◌, ◌⊎◌, inl, inr, List, length, Some, None, map, refl}
use Rattle.std.proofs.lemmas.Bool.{cases_lt}
use Rattle.hume_base.specs.declared.limits.TheConstants.{MAX_SOURCE_BYTES}
use Rattle.hume_base.specs.declared.finding.Finding.{Finding}
use Rattle.hume_base.specs.declared.rule.Rule.TheVariants.{C70}
use Rattle.hume_base.specs.declared.rule.Refusal.{Refusal}
use Rattle.hume_base.specs.declared.token.Token.{Token}
use Rattle.hume_base.specs.Least.{IsLeast}
use Rattle.hume_ast.specs.declared.tree.Program.{Program}
use Rattle.hume_lex.specs.BadPlaces.{IsRead}
use Rattle.hume_lex.proofs.Total as lexical
use Rattle.parse_errors.proofs.Answered.{answered}
use Rattle.hume_model.specs.declared.core_tree.Core.{Core}
use Rattle.box_costs.specs.CostRules.{node_bound}
use Rattle.check_rules.specs.CoreOf.{IsCoreOf}
use Rattle.wiring_check.proofs.TheWires.{are_wired}
use Rattle.wiring_check.proofs.SomeWiring.{some_wiring}
use Rattle.hume_check.specs.Refused.{refusal_of}
use Rattle.hume_front.specs.declared.acceptance.Accepted.{Accepted}
use Rattle.hume_front.specs.Accepted.{IsProgramOf, IsAccepted, Breaks, too_long, bad_token, no_program, in_program}
use Rattle.hume_front.specs.Broken.{BreaksProgram, by_core}
use Rattle.hume_front.proofs.CoreRules.{fine_wires}
use Rattle.hume_front.proofs.Tables.{in_core_table}
use Rattle.hume_front.proofs.ProgramRules.{checked}
use Rattle.hume_front.proofs.Reported.{lexer_breaks, parser_breaks}

abbrev pub Answered : List ℕ → Type 0
Answered text = ((accepted : Accepted) × IsAccepted text accepted) ⊎ ((refusal : Refusal) × Breaks text refusal)

module _ (text : List ℕ) where
  accepted_with : (program : Program) → IsProgramOf text program → (core : Core) → IsCoreOf text program core → IsLeast (BreaksProgram text program) None → Answered text
  accepted_with program is core stands fine =
      let wiring = some_wiring core (are_wired core (fine_wires core (λ f broken. fine f (by_core core stands (in_core_table core f broken))))) in
      inl (
        record { program = program; core = core; wiring = wiring.0; costs = map (node_bound core) core.nodes },
        record { program = is; fine = fine; core = stands; wiring = wiring.1; costs = refl },
      )

  refused_for : (program : Program) → IsProgramOf text program → (x : Finding) → IsLeast (BreaksProgram text program) (Some x) → Answered text
  refused_for program is x least =
      inr (refusal_of text program.decls x, in_program program is (refusal_of text program.decls x) (record { finding = x; least = least; is = refl }))

  of_program : (program : Program) → IsProgramOf text program → Answered text
  of_program program is = elim (checked text program is.spelled.0) [
    | inl x ↦ refused_for program is x.0 x.1
    | inr c ↦ accepted_with program is c.0 c.1 c.2
  ]

  of_tokens : length text ≤ MAX_SOURCE_BYTES → (tokens : List Token) → IsRead text tokens → Answered text
  of_tokens short tokens read = elim (answered tokens (length text)) [
    | inl p ↦ of_program p.0 (record { short = short; tokens = tokens; read = read; spelled = p.1 })
    | inr wrong ↦ inr (_, no_program short tokens read _ _ (parser_breaks tokens (length text) wrong.0 wrong.1))
  ]

  pub some_answer : Answered text
  some_answer = elim (cases_lt MAX_SOURCE_BYTES (length text)) [
    | inl long ↦ inr (record { rule = C70; line = 1 }, too_long long)
    | inr short ↦ elim (lexical.some_answer text) [
      | inl read ↦ of_tokens short read.0 read.1
      | inr bad ↦ inr (_, bad_token short _ _ (lexer_breaks text bad.0 bad.1))
    ]
  ]
