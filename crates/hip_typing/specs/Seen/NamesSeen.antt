-- The meaning of the code's lists.
use Rattle.std.specs.Prelude.{List, map}
use Rattle.hip_sound.specs.Names.{Named}
use Rattle.hip_typing.specs.declared.rules.named.NamedPlace.{NamedPlace}

-- The names with the places at which they are declared, as the code's list holds them.
abbrev pub seen : List NamedPlace → List Named
seen names = map (λ n. record { name = n.name.now; place = n.place }) names
