-- The meaning of the code's registers.
use Rattle.std.specs.Prelude.{List, [], ◌∷◌, Option, Some, None}
use Rattle.hip_sound.specs.Registers.{Register}
use Rattle.hip_typing.specs.declared.tables.registers.Register as code

-- The register that the code gives, as a list; empty where it gives none.
abbrev pub register_seen : Option code.Register → List Register
register_seen None = []
register_seen (Some r) = record { name = r.name.now; ty = r.ty } ∷ []
