-- The places that are told lead.
use Rattle.std.proofs.Common.{◌≡◌, List, [], ◌∷◌, Option, Some, None, refl, sym, subst}
use Rattle.std.specs.Option.{option_map_or}
use Rattle.serde_json.specs.Data.{Data}
use Rattle.smithy_model.specs.declared.wrong.Step.{Step}
use Rattle.smithy_model.specs.Wrong.{first_in, led_to, leading, leading_from, leads_by, Leads}
use Rattle.smithy_job.specs.WrongJobs.{WrongPlacesLead, parts_of, wrong_part, or_whole, wrong_in_job}

-- a step and those behind it, by what it leads to
abbrev led_by : Step → List Step → Option (Option Data) → List Step
led_by step rest o = option_map_or (λ next. step ∷ leading_from next rest) o []

step_leads : (d : Data) (step : Step) (rest : List Step) (o : Option (Option Data)) → led_to d step ≡ o → ((e : Data) → Leads e (leading e rest)) → Leads d (led_by step rest o)
step_leads d step rest None is more = tt
step_leads d step rest (Some None) is more = subst (λ o. leads_by (λ e. Leads e []) [] o) (sym is) refl
step_leads d step rest (Some (Some e)) is more = subst (λ o. leads_by (λ x. Leads x (leading e rest)) (leading e rest) o) (sym is) (more e)

front_leads : (d : Data) (steps : List Step) → Leads d (leading d steps)
front_leads d [] = tt
front_leads d (step ∷ rest) = step_leads d step rest (led_to d step) refl (λ e. front_leads e rest)

pub places_lead : WrongPlacesLead
unfolding wrong_in_job
places_lead k job = front_leads job (or_whole (first_in (wrong_part job) (parts_of k))).path
