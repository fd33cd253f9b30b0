use mir.Syntax.{Dict}
use denote.RattleType.{RattleType}
use denote.Param.Send.{Frees}
use Rattle.core.specs.declared.alloc.Allocator.{Ghosts}
use Rattle.testkit.specs.contracts.refusing.RefusingAllocator.TheImpl.{ghosts}
use Rattle.testkit.specs.Rules.{memory_of}

pub frees : (B : RattleType) (g : Ghosts B.Denot) (d e : Dict) → Frees g g.dealloc_token → Frees (ghosts B g d e) (ghosts B g d e).dealloc_token
frees B g d e f = record { frees = λ heap τ p. f.frees (memory_of heap) τ p }
