-- The specification's number of each refusal.
use Rattle.std.specs.Prelude.{ℕ}
use Rattle.objects.specs.declared.answers.Refusal.{Refusal}
use Rattle.objects.specs.declared.answers.Refusal.TheVariants as refusal

unfoldable pub number_of : Refusal → ℕ
number_of refusal.Site = 1
number_of refusal.Run = 2
number_of refusal.Surface = 3
number_of refusal.Object = 4
number_of refusal.Series = 5
number_of refusal.Reading = 6
number_of refusal.Results = 7
number_of refusal.Gap = 8
number_of refusal.Turned = 9
number_of refusal.NoSector = 10
number_of refusal.Reveal = 11
number_of refusal.Line = 12
number_of refusal.Edition = 14
number_of refusal.LeafDay = 15
