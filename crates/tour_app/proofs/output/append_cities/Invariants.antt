use Rattle.std.proofs.Common.{◌≡◌, ◌++◌, take}
use Rattle.tour_app.specs.Output.{cities_text}
use Rattle.tour_app.proofs.output.append_cities.Given as goal

abbrev pub invariant-loop-city : goal.invariant-loop-city
invariant-loop-city l = l.text.items ≡ l.fn.text.items ++ cities_text (take l.city-index l.tour)
