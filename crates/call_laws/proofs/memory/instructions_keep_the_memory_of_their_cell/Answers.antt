use Rattle.call_laws.proofs.CellMemory.{instruction_memory}
use Rattle.call_laws.proofs.memory.instructions_keep_the_memory_of_their_cell.Goals as goal

pub returns : goal.returns
returns c = instruction_memory
