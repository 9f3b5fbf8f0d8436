-- What is wrong with a schema that is not checked, in words: for each rule, where it is broken.
use Rattle.std.specs.Prelude.{ℕ, codes, List, ◌++◌, Option, Some, None}
use Rattle.smithy_binding.specs.Broken.{Broken}
use Rattle.smithy_binding.specs.declared.rules.Rule.{Rule}
use Rattle.smithy_binding.specs.declared.rules.Rule.TheVariants as rule

-- of a rule of a member it is the member, and of another the schema
abbrev pub text_of_rule : Rule → List ℕ
text_of_rule rule.Structure = codes "the schema is no structure"
text_of_rule rule.DefinedMembers = codes "a member of the schema is not defined"
text_of_rule rule.DistinctMembers = codes "two members have the same name"
text_of_rule rule.DefinedNodes = codes "it cites a node that is not defined"
text_of_rule rule.OneBinding = codes "it has more than one of the traits httpHeader, httpQuery, httpLabel, httpPrefixHeaders, httpQueryParams and httpPayload"
text_of_rule rule.OneResponseBinding = codes "it has more than one of the traits httpHeader, httpPrefixHeaders, httpResponseCode and httpPayload"
text_of_rule rule.WritableKind = codes "it is a Float or a Double, which are not written"
text_of_rule rule.LabelKind = codes "it has httpLabel, and is no Boolean, whole or big number, String or Timestamp"
text_of_rule rule.QueryKind = codes "it has httpQuery, and is no Boolean, whole or big number, String or Timestamp, nor a list of these"
text_of_rule rule.HeaderKind = codes "it has httpHeader, and is no Boolean, whole or big number, String, Timestamp or Blob, nor a list of these"
text_of_rule rule.PlainElements = codes "it is a list in a header or the query whose element has a mediaType, or not the timestampFormat of the list"
text_of_rule rule.PrefixMapKind = codes "it has httpPrefixHeaders, and is no map from Strings to Strings without mediaType"
text_of_rule rule.QueryMapKind = codes "it has httpQueryParams, and is no map from Strings to Strings or to lists of Strings without mediaType"
text_of_rule rule.ResponseCodeKind = codes "it has httpResponseCode, and is no Integer"
text_of_rule rule.OnePayload = codes "more than one member has httpPayload"
text_of_rule rule.PayloadKind = codes "the member with httpPayload is no Blob, String, structure, union, list, map or Document"
text_of_rule rule.LonePayload = codes "beside the member with httpPayload stands one that no trait puts outside the body"
text_of_rule rule.OnePrefixMap = codes "more than one member has httpPrefixHeaders"
text_of_rule rule.OneQueryMap = codes "more than one member has httpQueryParams"
text_of_rule rule.OneResponseCode = codes "more than one member has httpResponseCode"
text_of_rule rule.TrueFlag = codes "a member stands in the body, and the flag says that none does"
text_of_rule rule.TrueHint = codes "the payload hint does not say whether the payload is a structure"
text_of_rule rule.HeaderToken = codes "the name in its httpHeader is no token"
text_of_rule rule.DistinctHeaders = codes "the names of two httpHeader are alike in lower case"
text_of_rule rule.PrefixToken = codes "the prefix in its httpPrefixHeaders is neither empty nor a token"
text_of_rule rule.PrefixApart = codes "the prefix in its httpPrefixHeaders begins the name of an httpHeader"
text_of_rule rule.DistinctQueries = codes "the names of two httpQuery are alike"
text_of_rule rule.MethodToken = codes "the method of the trait http is no token"
text_of_rule rule.ClosedBraces = codes "a { in the uri of the trait http has no }"
text_of_rule rule.LegalTemplate = codes "the uri of the trait http, with `a` in each hole, is no legal target of a request, as /a/a?b=c"
text_of_rule rule.WholeSegments = codes "a hole in the uri of the trait http is no whole segment of the path"
text_of_rule rule.WholeAuthority = codes "the uri of the trait http has a scheme, and no / behind the authority before its first hole"
text_of_rule rule.LabelHoles = codes "the holes in the uri of the trait http are not the members with httpLabel, each once"
text_of_rule rule.GreedyLast = codes "a hole in the uri of the trait http is greedy and not the last"
text_of_rule rule.LeadingSlash = codes "the uri of the trait http does not begin with /"

-- behind the name of the member, where there is one
abbrev pub told_of : Option (List ℕ) → List ℕ → List ℕ
told_of None text = text
told_of (Some name) text = codes "member " ++ (name ++ (codes ": " ++ text))

-- a broken rule, with the member that breaks it
abbrev pub text_of_broken : Broken → List ℕ
text_of_broken broken = told_of broken.member (text_of_rule broken.rule)
