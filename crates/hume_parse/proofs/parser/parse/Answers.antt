use Rattle.std.proofs.Common.{◌≡◌, ◌⊎◌, inl, inr, sym, subst}
use Rattle.hume_ast.specs.Places.{StandsFor}
use Rattle.parse_errors.specs.declared.stop.Stop.{Stop}
use Rattle.parse_errors.specs.declared.stop.Stop.TheVariants.{Memory}
use Rattle.parse_errors.specs.declared.parse_error.ParseError.{ParseError}
use Rattle.parse_errors.specs.declared.parse_error.ParseError.TheVariants.{NoMemory}
use Rattle.parse_errors.proofs.Answered.{only_memory}
use Rattle.parse_readers.proofs.OneSpelling.{one_placed}
use Rattle.parse_readers.proofs.StandingFor.{read_stands}
use Rattle.hume_parse.proofs.parser.parse.Goals as goal

pub returns-in-Ok-clause-program : goal.returns-in-Ok-clause-program
returns-in-Ok-clause-program c =
    subst (λ decls. StandsFor c.args.tokens.now (record { decls = decls })) (sym c.in-Ok.ensures.places)
    (read_stands c.args.tokens.now _ _ c.in-Ok.ensures.reads)

-- a stop for want of memory is reported so
memory_or_place : {stop : Stop} {error : ParseError} {Place : Type 0} → (stop ≡ Memory → error ≡ NoMemory) → (stop ≡ Memory) ⊎ Place → (error ≡ NoMemory) ⊎ Place
memory_or_place memory (inl is) = inl (memory is)
memory_or_place memory (inr place) = inr place

pub returns-in-Err-clause-error : goal.returns-in-Err-clause-error
returns-in-Err-clause-error c = memory_or_place c.reported.ensures.memory (c.reported.ensures.place c.in-Err.ensures.reads)

pub returns-in-Ok-clause-only : goal.returns-in-Ok-clause-only
returns-in-Ok-clause-only c program stands =
    one_placed c.args.tokens.now _ program
    (subst (λ decls. StandsFor c.args.tokens.now (record { decls = decls })) (sym c.in-Ok.ensures.places) (read_stands c.args.tokens.now _ _ c.in-Ok.ensures.reads))
    stands

pub returns-in-Err-clause-only : goal.returns-in-Err-clause-only
returns-in-Err-clause-only c program stands =
    only_memory c.args.tokens.now c.args.end _ program stands
    (memory_or_place c.reported.ensures.memory (c.reported.ensures.place c.in-Err.ensures.reads))
