-- What reading a part comes to, up to the end of the element around it: the reading of requests without the values that it gives.
use Rattle.std.specs.Prelude.{ℕ, ◌==◌, [], Option, Some, None, Result, Ok, Err, if◌then◌else◌}
use Rattle.ber_core.specs.declared.fault.NotLdapWhy.TheVariants as why
use Rattle.ber_core.specs.Window.{Stop, Fault, Window, ◌>>=◌, tag_here, open_as, octets, int, boolean, element, skip_one, skip, ended, many, optional, run, outermost}
use Rattle.ldap_requests.specs.Grammar.{text, count, message_id, attribute_inside, attribute, assertion, sasl, auth, bind_inside, unbind_inside, add_inside, modification_inside, modification, modify_inside, rename_inside, compare_inside, extended_inside, pieces, substrings_inside, filter_at, search_inside, operation, control_inside, control, request_inside}
use Rattle.request_wait.specs.declared.part.Part.{Part}
use Rattle.request_wait.specs.declared.part.Part.TheVariants as part
use Rattle.request_wait.specs.declared.part.Leaf.{Leaf}
use Rattle.request_wait.specs.declared.part.Leaf.TheVariants as leaf
use Rattle.request_wait.specs.declared.part.Content.{Content}
use Rattle.request_wait.specs.declared.part.Content.TheVariants as content
use Rattle.request_wait.specs.declared.part.Form.{Form}
use Rattle.request_wait.specs.declared.part.Form.TheVariants as form
use Rattle.request_wait.specs.declared.part.Choice.{Choice}
use Rattle.request_wait.specs.Table.{content_by}

abbrev pub Outcome : Type 0
Outcome = Result (Unit {0}) Stop

abbrev pub done : Outcome
done = Ok tt

-- what reading came to, without its value
abbrev pub outcome : {A : Type 0} → Result A Stop → Outcome
outcome (Ok x) = Ok tt
outcome (Err e) = Err e

unfoldable pub inside : Part → Window → Outcome
inside part.Start w = outcome (outermost (open_as 0x30 w) >>= λ o. request_inside o.0)
inside part.Request w = outcome (request_inside w)
inside part.Operation w = operation w >>= λ o. optional 0xa0 (many control) o.1 >>= λ controls. skip controls.1
inside part.AfterOperation w = optional 0xa0 (many control) w >>= λ controls. skip controls.1
inside part.Unknown w = skip w
inside part.End w = ended w
inside part.Controls w = outcome (many control w)
inside part.Control w = outcome (control_inside w)
inside part.ControlCritical w = optional 0x01 boolean w >>= λ critical. optional 0x04 octets critical.1 >>= λ value. skip value.1
inside part.ControlValue w = optional 0x04 octets w >>= λ value. skip value.1
inside part.Bind w = outcome (bind_inside w)
inside part.BindName w = text w >>= λ name. auth name.1 >>= λ by. skip by.1
inside part.BindAuth w = auth w >>= λ by. skip by.1
inside part.Sasl w = sasl w
inside part.SaslCredentials w = optional 0x04 octets w >>= λ credentials. ended credentials.1
inside part.Unbind w = outcome (unbind_inside w)
inside part.Search w = outcome (search_inside w)
inside part.SearchScope w = element 0x0a int w >>= λ scope. element 0x0a int scope.1 >>= λ deref. element 0x02 count deref.1 >>= λ size_limit. element 0x02 count size_limit.1 >>= λ time_limit. element 0x01 boolean time_limit.1 >>= λ types_only. filter_at 50 types_only.1 >>= λ f. element 0x30 (many text) f.1 >>= λ attrs. skip attrs.1
inside part.SearchDeref w = element 0x0a int w >>= λ deref. element 0x02 count deref.1 >>= λ size_limit. element 0x02 count size_limit.1 >>= λ time_limit. element 0x01 boolean time_limit.1 >>= λ types_only. filter_at 50 types_only.1 >>= λ f. element 0x30 (many text) f.1 >>= λ attrs. skip attrs.1
inside part.SearchSizeLimit w = element 0x02 count w >>= λ size_limit. element 0x02 count size_limit.1 >>= λ time_limit. element 0x01 boolean time_limit.1 >>= λ types_only. filter_at 50 types_only.1 >>= λ f. element 0x30 (many text) f.1 >>= λ attrs. skip attrs.1
inside part.SearchTimeLimit w = element 0x02 count w >>= λ time_limit. element 0x01 boolean time_limit.1 >>= λ types_only. filter_at 50 types_only.1 >>= λ f. element 0x30 (many text) f.1 >>= λ attrs. skip attrs.1
inside part.SearchTypesOnly w = element 0x01 boolean w >>= λ types_only. filter_at 50 types_only.1 >>= λ f. element 0x30 (many text) f.1 >>= λ attrs. skip attrs.1
inside part.SearchFilter w = filter_at 50 w >>= λ f. element 0x30 (many text) f.1 >>= λ attrs. skip attrs.1
inside part.SearchAttributes w = element 0x30 (many text) w >>= λ attrs. skip attrs.1
inside (part.Filters levels) w = outcome (many (filter_at levels) w)
inside (part.Not levels) w = filter_at levels w >>= λ f. ended f.1
inside part.Substrings w = outcome (substrings_inside w)
inside part.SubstringsPieces w = element 0x30 (pieces []) w >>= λ found. ended found.1
inside part.Pieces w = outcome (pieces [] w)
inside part.InitialPiece w = optional 0x80 octets w >>= λ initial. run 0x81 octets initial.1 >>= λ middle. optional 0x82 octets middle.1 >>= λ last. ended last.1
inside part.MiddlePieces w = run 0x81 octets w >>= λ middle. optional 0x82 octets middle.1 >>= λ last. ended last.1
inside part.FinalPiece w = optional 0x82 octets w >>= λ last. ended last.1
inside part.Modify w = outcome (modify_inside w)
inside part.ModifyMods w = element 0x30 (many modification) w >>= λ mods. skip mods.1
inside part.Mods w = outcome (many modification w)
inside part.Mod w = outcome (modification_inside w)
inside part.ModAttribute w = attribute w >>= λ attr. ended attr.1
inside part.Add w = outcome (add_inside w)
inside part.AddAttributes w = element 0x30 (many attribute) w >>= λ attrs. skip attrs.1
inside part.Attributes w = outcome (many attribute w)
inside part.Attribute w = outcome (attribute_inside w)
inside part.AttributeValues w = element 0x31 (many text) w >>= λ vals. ended vals.1
inside part.Texts w = outcome (many text w)
inside part.Rename w = outcome (rename_inside w)
inside part.RenameNewRdn w = text w >>= λ new_rdn. element 0x01 boolean new_rdn.1 >>= λ delete_old. optional 0x80 octets delete_old.1 >>= λ new_superior. skip new_superior.1
inside part.RenameDeleteOld w = element 0x01 boolean w >>= λ delete_old. optional 0x80 octets delete_old.1 >>= λ new_superior. skip new_superior.1
inside part.RenameNewSuperior w = optional 0x80 octets w >>= λ new_superior. skip new_superior.1
inside part.Compare w = outcome (compare_inside w)
inside part.CompareAssertion w = element 0x30 assertion w >>= λ ava. skip ava.1
inside part.Assertion w = outcome (assertion w)
inside part.AssertionValue w = text w >>= λ value. ended value.1
inside part.Extended w = outcome (extended_inside w)
inside part.ExtendedValue w = optional 0x81 octets w >>= λ value. skip value.1

-- ---- the same by what stands first

abbrev pub of_leaf : Leaf → Window → Outcome
of_leaf leaf.Octets w = outcome (octets w)
of_leaf leaf.Int w = outcome (int w)
of_leaf leaf.Boolean w = outcome (boolean w)
of_leaf leaf.Count w = outcome (count w)
of_leaf leaf.MessageId w = outcome (message_id w)

abbrev pub of_content : Content → Window → Outcome
of_content (content.Leaf l) w = of_leaf l w
of_content (content.Inner p) w = inside p w

-- an element with this tag and such a content, and then a part
unfoldable pub one : ℕ → Content → Part → Window → Outcome
one tag content next w = open_as tag w >>= λ o. of_content content o.0 >>= λ u. inside next o.1

unfoldable pub many_of : ℕ → Content → Part → Window → Outcome
many_of tag content next w = if w.left == 0 then done else one tag content next w

unfoldable pub optional_of : ℕ → Content → Part → Part → Window → Outcome
optional_of tag content found missing w = if w.left == 0 then inside missing w else (tag_here w >>= λ t. if t == tag then one tag content found w else inside missing w)

-- the element with this tag, if its content is known
abbrev pub known : Outcome → ℕ → Option Content → Part → Window → Outcome
known unknown tag (Some content) next w = one tag content next w
known unknown tag None next w = unknown

unfoldable pub choice_of : Choice → Part → Part → Window → Outcome
choice_of choice next p w = tag_here w >>= λ t. known (inside p w) t (content_by choice t) next w

unfoldable pub many_of_choice : Choice → Part → Window → Outcome
many_of_choice choice p w = if w.left == 0 then done else choice_of choice p p w

unfoldable pub some_of : Part → Window → Outcome
some_of next w = if w.left == 0 then Err (Fault w.start why.Shape) else inside next w

unfoldable pub skip_of : Part → Window → Outcome
skip_of p w = if w.left == 0 then done else (skip_one w >>= λ rest. inside p rest)

unfoldable pub empty : Window → Outcome
empty w = if w.left == 0 then done else Err (Fault w.start why.Shape)

unfoldable pub start_of : Part → Window → Outcome
start_of next w = outermost (open_as 0x30 w) >>= λ o. inside next o.0

abbrev pub by_form : Form → Part → Window → Outcome
by_form form.Start p w = start_of part.Request w
by_form (form.One tag content next) p w = one tag content next w
by_form (form.Many tag content) p w = many_of tag content p w
by_form (form.Optional tag content found missing) p w = optional_of tag content found missing w
by_form (form.OneOf choice next) p w = choice_of choice next p w
by_form (form.ManyOf choice) p w = many_of_choice choice p w
by_form (form.Some next) p w = some_of next w
by_form form.Skipped p w = skip_of p w
by_form form.Nothing p w = ended w
by_form form.Empty p w = empty w
