-- What a row of ports keeps: a total of which the share can be told.
use Rattle.std.specs.Prelude.{◌<◌, ◌^◌, IfSome}
use Rattle.md_people.specs.declared.ports.PortsRow.TheInside.{Inside}

abbrev pub HasShare : Inside → Type 0
HasShare a = IfSome a.total (λ n. n < 2 ^ 118)
